use Rattle.tool_edit.specs.Checking.{FailsToPass}
use Rattle.tool_edit.specs.Listing.{FailsToList}
use Rattle.tool_edit.specs.Trees.{FailsToTree}
use Rattle.tool_errors.specs.Reading.{FailsReading, BytesCause}
use Rattle.tool_inspect.specs.Mapping.{FailsToMap}
use Rattle.tool_inspect.specs.Showing.{FileAloneCause}
use Rattle.tool_args.specs.declared.command.Reading.TheVariants as readings
use Rattle.index_tool.specs.Outcome.{plain_checks, tree_checks}
use Rattle.index_tool.proofs.Endings.{telling_refused}
use Rattle.index_tool.proofs.command.tell.Goals as goal

pub returns-in-List : goal.returns-in-List
returns-in-List g c =
    rw c.in-List.is (record {
      told = c.list.ensures.told;
      refused = telling_refused (g.D.Folder.known c.args.folder.now)
          (FailsToList c.in-List.lines (g.D.Folder.works c.args.folder.now) (g.D.Folder.known c.args.folder.now) c.args.kind c.args.path.now)
          (readings.List c.in-List.lines) c.args.kind c.args.path.now _ _ _ c.list.result c.list.ensures.refused;
    })

pub returns-in-Check : goal.returns-in-Check
returns-in-Check g c =
    rw c.in-Check.is (record {
      told = rw c.plain_checks.ensures at c.check.ensures.told;
      refused = telling_refused (g.D.Folder.known c.args.folder.now)
          (FailsToPass (plain_checks c.in-Check.strict) (g.D.Folder.works c.args.folder.now) (g.D.Folder.known c.args.folder.now) c.args.kind c.args.path.now)
          (readings.Check c.in-Check.strict) c.args.kind c.args.path.now _ _ _ c.check.result
          (rw c.plain_checks.ensures at c.check.ensures.refused);
    })

pub returns-in-CheckTrees : goal.returns-in-CheckTrees
returns-in-CheckTrees g c =
    rw c.in-CheckTrees.is (record {
      told = rw c.tree_checks.ensures at c.check-in-CheckTrees.ensures.told;
      refused = telling_refused (g.D.Folder.known c.args.folder.now)
          (FailsToPass (tree_checks c.in-CheckTrees.strict) (g.D.Folder.works c.args.folder.now) (g.D.Folder.known c.args.folder.now) c.args.kind c.args.path.now)
          (readings.CheckTrees c.in-CheckTrees.strict) c.args.kind c.args.path.now _ _ _ c.check-in-CheckTrees.result
          (rw c.tree_checks.ensures at c.check-in-CheckTrees.ensures.refused);
    })

pub returns-in-Map : goal.returns-in-Map
returns-in-Map g c =
    rw c.in-Map.is (record {
      told = c.map.ensures.told;
      refused = telling_refused (g.D.Folder.known c.args.folder.now)
          (FailsToMap c.in-Map.lines (g.D.Folder.works c.args.folder.now) (g.D.Folder.known c.args.folder.now) c.args.kind c.args.path.now)
          (readings.Map c.in-Map.lines) c.args.kind c.args.path.now _ _ _ c.map.result c.map.ensures.refused;
    })

pub returns-in-MapSvg : goal.returns-in-MapSvg
returns-in-MapSvg g c =
    rw c.in-MapSvg.is (record {
      told = c.map_svg.ensures.told;
      refused = telling_refused (g.D.Folder.known c.args.folder.now)
          (FailsReading (BytesCause (g.D.Folder.works c.args.folder.now) (g.D.Folder.known c.args.folder.now) c.args.path.now) c.args.path.now)
          readings.MapSvg c.args.kind c.args.path.now _ _ _ c.map_svg.result c.map_svg.ensures.refused;
    })

pub returns-in-Show : goal.returns-in-Show
returns-in-Show g c =
    rw c.in-Show.is (record {
      told = c.show.ensures.told;
      refused = telling_refused (g.D.Folder.known c.args.folder.now)
          (FailsReading (FileAloneCause (g.D.Folder.works c.args.folder.now) (g.D.Folder.known c.args.folder.now) c.args.kind c.args.path.now) c.args.path.now)
          readings.Show c.args.kind c.args.path.now _ _ _ c.show.result c.show.ensures.refused;
    })

pub returns-in-ShowJson : goal.returns-in-ShowJson
returns-in-ShowJson g c =
    rw c.in-ShowJson.is (record {
      told = c.show-in-ShowJson.ensures.told;
      refused = telling_refused (g.D.Folder.known c.args.folder.now)
          (FailsReading (FileAloneCause (g.D.Folder.works c.args.folder.now) (g.D.Folder.known c.args.folder.now) c.args.kind c.args.path.now) c.args.path.now)
          readings.ShowJson c.args.kind c.args.path.now _ _ _ c.show-in-ShowJson.result
          c.show-in-ShowJson.ensures.refused;
    })

pub returns-in-Trees : goal.returns-in-Trees
returns-in-Trees g c =
    rw c.in-Trees.is (record {
      told = c.trees.ensures.told;
      refused = telling_refused (g.D.Folder.known c.args.folder.now)
          (FailsToTree (g.D.Folder.works c.args.folder.now) (g.D.Folder.known c.args.folder.now) c.args.kind c.args.path.now)
          (readings.Trees c.in-Trees.lines) c.args.kind c.args.path.now _ _ _ c.trees.result c.trees.ensures.refused;
    })
