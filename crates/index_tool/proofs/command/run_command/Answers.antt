use Rattle.std.proofs.Common.{string_bytes}
use Rattle.index_tool.proofs.Endings.{stored_done, stored_refused}
use Rattle.index_tool.proofs.command.run_command.Goals as goal

pub returns-in-Write : goal.returns-in-Write
returns-in-Write g c =
    rw c.in-Write.is (record {
      done = stored_done c.write.result (g.D.Folder.alone c.args.folder.now)
          (g.D.Folder.guards c.args.folder.now) (g.D.Folder.known c.args.folder.now)
          (g.D.Folder.known c.write.new.folder) c.in-Write.what c.args.index.now.kind
          (string_bytes c.args.index.now.path) c.in-Write.to.now _ c.write.ensures.written;
      refused = stored_refused c.write.result _ _ _;
      spared = c.write.ensures.restored;
    })
