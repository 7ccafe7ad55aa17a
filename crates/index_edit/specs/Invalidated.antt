-- A cache tree and an untracked cache after changes of an index. The path of each change is invalidated, even if the
-- change finds nothing to remove (gitformat-index, "Cache tree", "Untracked cache").
use Rattle.std.specs.Prelude.{◌≡◌, ℕ, List, [], ◌∷◌, IfSome, Option}
use Rattle.std.specs.Option.{option_map}
use Rattle.ext_tree.specs.Sound.{CountsAtMost}
use Rattle.ext_tree.specs.Tree.{Node, node_of}
use Rattle.ext_tree.specs.declared.Tree.{Tree}
use Rattle.ext_untracked.specs.Untracked.{Cache, cache_of}
use Rattle.ext_untracked.specs.declared.UntrackedCache.{UntrackedCache}
use Rattle.ext_untracked.specs.UntrackedEdits.{path_invalidated}
use Rattle.entry_edit.specs.Changes.{change_path}
use Rattle.entry_edit.specs.declared.change.Change.{Change}
use Rattle.ext_tree.specs.Invalidation.{invalidated}

-- the tree after the paths of the changes are invalidated, one after another
unfoldable pub all_invalidated : List Change → Node → Node
all_invalidated [] tree = tree
all_invalidated (c ∷ cs) tree = all_invalidated cs (invalidated (change_path c) tree)

-- the cache after the paths of the changes are invalidated, one after another
unfoldable pub all_unlisted : List Change → Cache → Cache
all_unlisted [] cache = cache
all_unlisted (c ∷ cs) cache = all_unlisted cs (path_invalidated (change_path c) cache)

-- the paths of the changes are invalidated in the tree, and in the cache, if there is one
abbrev pub InvalidatesAll : List Change → Option Tree → Option Tree → Type 0
InvalidatesAll cs old now = option_map node_of now ≡ option_map (λ t. all_invalidated cs (node_of t)) old

abbrev pub UnlistsAll : List Change → Option UntrackedCache → Option UntrackedCache → Type 0
UnlistsAll cs old now = option_map cache_of now ≡ option_map (λ c. all_unlisted cs (cache_of c)) old

-- no node counts more than `most`, if none did
abbrev pub CountsNoMore : Option Tree → Option Tree → Type 0
CountsNoMore old now =
    (most : ℕ) → IfSome old (λ t. CountsAtMost most (node_of t)) → IfSome now (λ t. CountsAtMost most (node_of t))
