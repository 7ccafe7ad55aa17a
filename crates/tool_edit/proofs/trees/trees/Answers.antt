use Rattle.std.proofs.Common.{[], inl, inr, refl}
use Rattle.std.proofs.KnownBytes.{Keeps-refl}
use Rattle.std.proofs.lemmas.Result.{err_from_is_err_and}
use Rattle.gix_index.specs.File.{checksum_of, state_of}
use Rattle.gix_index.specs.State.{contents}
use Rattle.gix_index.specs.Tree.{node_of}
use Rattle.tool_errors.specs.Outputs.{part, untold}
use Rattle.view_list.specs.Directories.{subtree_lines}
use Rattle.tool_edit.proofs.trees.trees.Goals as goal

pub returns-in_err-index : goal.returns-in_err-index
returns-in_err-index g c =
    let p = err_from_is_err_and c.from_residual.result c.from_residual.ensures.1 in
    rw (p.1, p.2) (record {
      told = tt;
      refused = untold (inl c.in_err-index.ensures.fault) (Keeps-refl (g.W.Out.taken c.args.out.now));
    })

pub returns-in_err-tree : goal.returns-in_err-tree
returns-in_err-tree g c =
    let p = err_from_is_err_and c.from_residual-in_err-tree.result c.from_residual-in_err-tree.ensures.1 in
    rw (p.1, p.2) (record {
      told = tt;
      refused = untold (inr (record {
        value = contents (state_of c.in_ok-index.index);
        checksum = checksum_of c.in_ok-index.index;
        time = c.in_ok-index.ensures.read.time;
        read = c.in_ok-index.ensures.read.is;
        is = c.in_err-tree.ensures.fault;
      })) (Keeps-refl (g.W.Out.taken c.args.out.now));
    })

pub returns-in-Ok : goal.returns-in-Ok
returns-in-Ok g c = record {
  told = record {
    text = subtree_lines c.args.style [] (node_of c.in_ok-tree.tree);
    is = record {
      value = contents (state_of c.in_ok-index.index);
      tree = node_of c.in_ok-tree.tree;
      is_tree = record {
        checksum = checksum_of c.in_ok-index.index;
        read = c.in_ok-index.ensures.read;
        is_tree = c.in_ok-tree.ensures.made;
      };
      is = refl;
    };
    grew = c.in-Ok.ensures.ok;
  };
  refused = tt;
}

pub returns : goal.returns
returns g c = record {
  told = tt;
  refused = part c.in-Err.e refl c.in-Err.ensures.cause (record {
    text = subtree_lines c.args.style [] (node_of c.in_ok-tree.tree);
    is = inl (record {
      value = contents (state_of c.in_ok-index.index);
      tree = node_of c.in_ok-tree.tree;
      is_tree = record {
        checksum = checksum_of c.in_ok-index.index;
        read = c.in_ok-index.ensures.read;
        is_tree = c.in_ok-tree.ensures.made;
      };
      is = refl;
    });
    grew = c.in-Err.ensures.err;
  });
}
