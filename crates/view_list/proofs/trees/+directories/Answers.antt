use Rattle.std.proofs.Common.{◌∙◌, ◌++◌, ℕ, List, Ok, Err, ap, arith, refl, subst, take, rules}
use Rattle.std.specs.List.{flat_map}
use Rattle.std.proofs.lemmas.Result.{err_from_is_err_and}
use Rattle.ext_tree.specs.Tree.{node_of}
use Rattle.ext_tree.specs.declared.Tree.TheViews.{out-Tree}
use Rattle.base_text.proofs.Blocks.{block_broken, block_out, blocks_then, no_memory}
use Rattle.base_text.specs.Blocks.{PutsBlocks}
use Rattle.view_list.specs.Directories.{subtree_lines, name_prefix, tree_line}
use Rattle.view_list.proofs.Directed.{children_all, children_broken, children_more, front_back, lines_behind}
use Rattle.view_list.proofs.Directed.{no_own_line, own_line}
use Rattle.view_list.proofs.trees.+directories.Goals as goal

pub append_directories-loop-tree-preserved : goal.append_directories-loop-tree-preserved
append_directories-loop-tree-preserved g t c = record {
  written = children_more c.args.style c.args.lines.now.items c.args.front.now.items c.args.trees.now
      (Ok c.in_ok-append_directory.field-0) c.loop-tree.front.items c.loop-tree.tree-index c.tree-item.result
      c.loop-tree-test.true c.tree-item.is c.loop-tree.invariant.kept c.loop-tree.invariant.written
      c.in_ok-append_directory.ensures.written;
  kept = c.in_ok-append_directory.ensures.kept ∙ c.loop-tree.invariant.kept;
}

pub append_directories-returns-in_err-append_directory : goal.append_directories-returns-in_err-append_directory
append_directories-returns-in_err-append_directory g t c =
    let p = err_from_is_err_and c.from_residual.result c.from_residual.ensures.1 in
    record {
      written = rw (p.1, p.2) (children_broken c.args.style c.args.lines.now.items c.args.front.now.items
          c.args.trees.now (Err c.in_err-append_directory.field-0.0) c.loop-tree.front.items c.loop-tree.tree-index
          c.tree-item.result refl c.loop-tree-test.true c.tree-item.is c.loop-tree.invariant.kept
          c.loop-tree.invariant.written c.in_err-append_directory.ensures.written);
      kept = search rules;
    }

pub append_directories-returns : goal.append_directories-returns
append_directories-returns g t c = record {
  written = children_all c.args.style c.args.lines.now.items c.args.front.now.items c.args.trees.now
      c.loop-tree.tree-index c.loop-tree-test.false c.loop-tree.invariant.written;
  kept = c.loop-tree.invariant.kept;
}

pub append_directory-returns-in_err-extend_from_slice : goal.append_directory-returns-in_err-extend_from_slice
append_directory-returns-in_err-extend_from_slice g t c =
    let r = c.from_residual.result in
    let p = err_from_is_err_and r c.from_residual.ensures.1 in
    record {
      written = no_own_line r c.args.lines.now.items
          (subtree_lines c.args.style c.args.front.now.items (node_of c.args.tree.now)) p.1 p.2;
      kept = search rules;
    }

pub append_directory-returns-in_err-append_line : goal.append_directory-returns-in_err-append_line
append_directory-returns-in_err-append_line g t c =
    let r = c.from_residual-in_err-append_line.result in
    let p = err_from_is_err_and r c.from_residual-in_err-append_line.ensures.1 in
    record {
      written = no_own_line r c.args.lines.now.items
          (subtree_lines c.args.style c.args.front.now.items (node_of c.args.tree.now)) p.1 p.2;
      kept = search rules;
    }

pub append_directory-returns-in_err-put_block : goal.append_directory-returns-in_err-put_block
append_directory-returns-in_err-put_block g t c =
    let front = c.args.front.now.items in
    let path = c.extend_from_slice.new.self.items in
    let children = (out-Tree c.args.tree.now).children.items in
    let below = flat_map (λ u. subtree_lines c.args.style (name_prefix path) (node_of u)) children in
    let named = c.in_ok-extend_from_slice.ensures.items ∙ ap (λ (n : List ℕ). front ++ n) c.as_slice.ensures in
    let r = c.from_residual-in_err-put_block.result in
    let p = err_from_is_err_and r c.from_residual-in_err-put_block.ensures.1 in
    let own = own_line {w = g.W.Out} {a = c.args.out.now} c.args.lines.now.items
    (tree_line c.args.style path c.args.tree.now)
    (rw c.deref.ensures.value at c.in_ok-append_line.ensures) in
    record {
      written = block_broken r below p.1 own c.in_err-put_block.ensures.err c.in_err-put_block.ensures.has_failed
          c.in_err-put_block.ensures.loan (lines_behind c.args.style c.args.tree.now c.args.lines.now.items front path
          (name_prefix path) children named refl refl);
      kept = search rules;
    }

pub append_directory-returns-in_err-go_in : goal.append_directory-returns-in_err-go_in
append_directory-returns-in_err-go_in g t c =
    let front = c.args.front.now.items in
    let path = c.extend_from_slice.new.self.items in
    let children = (out-Tree c.args.tree.now).children.items in
    let below = flat_map (λ u. subtree_lines c.args.style (name_prefix path) (node_of u)) children in
    let named = c.in_ok-extend_from_slice.ensures.items ∙ ap (λ (n : List ℕ). front ++ n) c.as_slice.ensures in
    let r = c.from_residual-in_err-go_in.result in
    let p = err_from_is_err_and r c.from_residual-in_err-go_in.ensures.1 in
    let own = own_line {w = g.W.Out} {a = c.args.out.now} c.args.lines.now.items
    (tree_line c.args.style path c.args.tree.now)
    (rw c.deref.ensures.value at c.in_ok-append_line.ensures) in
    let sent = block_out {T = Unit {0}} {y = tt} own c.in_ok-put_block.ensures.ok c.in_ok-put_block.ensures.has_failed
    c.in_ok-put_block.ensures.loan in
    record {
      written = no_memory r below p.1 p.2 sent (lines_behind c.args.style c.args.tree.now c.args.lines.now.items front
          path (name_prefix path) children named refl refl);
      kept = search rules;
    }

pub append_directory-returns-in_err-append_directories : goal.append_directory-returns-in_err-append_directories
append_directory-returns-in_err-append_directories g t c =
    let front = c.args.front.now.items in
    let path = c.extend_from_slice.new.self.items in
    let within = c.go_in.new.path.items in
    let children = c.deref-2.result.now in
    let below = flat_map (λ u. subtree_lines c.args.style within (node_of u)) children in
    let named = c.in_ok-extend_from_slice.ensures.items ∙ ap (λ (n : List ℕ). front ++ n) c.as_slice.ensures in
    let r = c.from_residual-in_err-append_directories.result in
    let p = err_from_is_err_and r c.from_residual-in_err-append_directories.ensures.1 in
    let own = own_line {w = g.W.Out} {a = c.args.out.now} c.args.lines.now.items
    (tree_line c.args.style path c.args.tree.now)
    (rw c.deref.ensures.value at c.in_ok-append_line.ensures) in
    let sent = block_out {T = Unit {0}} {y = tt} own c.in_ok-put_block.ensures.ok c.in_ok-put_block.ensures.has_failed
    c.in_ok-put_block.ensures.loan in
    let P : List ℕ → Type 0 = λ l. PutsBlocks {T = Unit {0}} g.W.Out c.args.out.now c.append_directories.new.out
    (Err c.in_err-append_directories.field-0.0) c.append_directories.new.lines.items l in
    record {
      written = rw (p.1, p.2) (subst P (lines_behind c.args.style c.args.tree.now c.args.lines.now.items front path
          within children named c.in_ok-go_in.ensures c.deref-2.ensures.value)
          (blocks_then (Err _) below sent c.in_err-append_directories.ensures.written));
      kept = search rules;
    }

pub append_directory-returns : goal.append_directory-returns
append_directory-returns g t c =
    let front = c.args.front.now.items in
    let path = c.extend_from_slice.new.self.items in
    let within = c.go_in.new.path.items in
    let children = c.deref-2.result.now in
    let below = flat_map (λ u. subtree_lines c.args.style within (node_of u)) children in
    let named = c.in_ok-extend_from_slice.ensures.items ∙ ap (λ (n : List ℕ). front ++ n) c.as_slice.ensures in
    let own = own_line {w = g.W.Out} {a = c.args.out.now} c.args.lines.now.items
    (tree_line c.args.style path c.args.tree.now)
    (rw c.deref.ensures.value at c.in_ok-append_line.ensures) in
    let sent = block_out {T = Unit {0}} {y = tt} own c.in_ok-put_block.ensures.ok c.in_ok-put_block.ensures.has_failed
    c.in_ok-put_block.ensures.loan in
    let P : List ℕ → Type 0 = λ l. PutsBlocks {T = Unit {0}} g.W.Out c.args.out.now c.append_directories.new.out
    (Ok tt) c.append_directories.new.lines.items l in
    record {
      written = subst P (lines_behind c.args.style c.args.tree.now c.args.lines.now.items front path
          within children named c.in_ok-go_in.ensures c.deref-2.ensures.value)
          (blocks_then (Ok _) below sent c.in_ok-append_directories.ensures.written);
      kept = c.truncate.ensures.items
          ∙ ap (take c.len-len.result) (c.in_ok-append_directories.ensures.kept ∙ c.in_ok-go_in.ensures)
          ∙ front_back front (out-Tree c.args.tree.now).name.items path c.len-len.result
          (omega (arith, c.len-len.ensures, c.args.front.now.ok.0)) named;
    }
