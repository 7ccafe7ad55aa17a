use Rattle.std.proofs.Common.{inl, inr, subst, sym}
use Rattle.std.proofs.lemmas.Result.{err_from_is_err_and}
use Rattle.gix_index.specs.File.{checksum_of, state_of}
use Rattle.gix_index.specs.State.{PathsInStorage, contents}
use Rattle.gix_index.specs.StateType.{State}
use Rattle.gix_index.specs.Tree.{node_of}
use Rattle.tool_edit.specs.Trees.{IsTreePut}
use Rattle.tool_edit.proofs.rewrite_trees.with_rebuilt_tree.Goals as goal

pub returns-in_err-index : goal.returns-in_err-index
returns-in_err-index g c =
    let p = err_from_is_err_and c.from_residual.result c.from_residual.ensures.1 in
    rw (p.1, p.2) (record { read = tt; placed = tt; fault = inl c.in_err-index.ensures.fault })

pub returns-in_err-tree : goal.returns-in_err-tree
returns-in_err-tree g c =
    let p = err_from_is_err_and c.from_residual-in_err-tree.result c.from_residual-in_err-tree.ensures.1 in
    rw (p.1, p.2) (record {
      read = tt;
      placed = tt;
      fault = inr (record {
        value = contents (state_of c.in_ok-index.index);
        checksum = checksum_of c.in_ok-index.index;
        time = (contents (state_of c.in_ok-index.index)).time;
        read = c.in_ok-index.ensures.read.read;
        is = c.in_err-tree.ensures.fault;
      });
    })

pub returns : goal.returns
returns g c =
    let tree = node_of c.in_ok-tree.tree in
    record {
      read = record {
        read = contents (state_of c.in_ok-index.index);
        checksum = checksum_of c.in_ok-index.index;
        in_file = c.in_ok-index.ensures.read;
        tree = tree;
        is_tree = c.in_ok-tree.ensures.made;
        put = subst (λ (s : State). IsTreePut c.args.counts (contents s) tree (contents (state_of c.from_state.result)))
            c.into_parts-state.ensures.state
            (subst (λ (s : State). IsTreePut c.args.counts (contents c.into_parts-state.result.0) tree (contents s))
            (sym c.from_state.ensures.state) c.put_tree.ensures.put);
      };
      placed = subst (λ (s : State). PathsInStorage s) (sym c.from_state.ensures.state)
          (c.put_tree.ensures.placed (subst (λ (s : State). PathsInStorage s) (sym c.into_parts-state.ensures.state)
          c.in_ok-index.ensures.placed));
      fault = tt;
    }
