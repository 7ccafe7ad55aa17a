-- A row of nodes after a head, as it is read: one more at its end, and the first removed.
use Rattle.std.proofs.Common.{◌≡◌, ℕ, suc, ◌-◌, ◌<◌, ◌≤◌, List, [], ◌∷◌, ◌++◌, Option, Some, None, refl, sym, ap, subst}
use Rattle.std.proofs.Common.{◌∙◌, arith}
use Rattle.std.specs.List.Sorted.{IsPermutation}
use Rattle.index_parts.specs.declared.hash.Kind.{Kind}
use Rattle.ext_tree.specs.NodeSteps.{roomy_head_at}
use Rattle.ext_tree.specs.Tree.{Node, Nodes, node, none, more, how_many_nodes, nodes_from, NodeHead}
use Rattle.ext_tree.specs.Tree.{IsNodeHead, IsNodeEncoding, AreNodeEncodings, node_depth, nodes_depth, NamesRise}
use Rattle.ext_tree.specs.Tree.{SortsChildren}
use Rattle.ext_tree.specs.Tree.{SortsEach, IsNode}
use Rattle.ext_tree.proofs.NodeHeads.{one_node_head, roomy_head_takes}
use Rattle.ext_tree.proofs.Spelled.{depth_push, number_push, one_row, spelled_push, no_node}
use Rattle.ext_tree.proofs.Trees.{each_once, one_subtree}

-- bytes encode `number` nodes within `levels` levels, and the rest; ts are these nodes, the children of each one sorted
pub record IsRow (kind : Kind) (limit : Option ℕ) (levels number : ℕ) (bytes : List ℕ) (ts : List Node)
    (rest : List ℕ) : Type 0 where
  pub nodes : List Node
  pub spelled : AreNodeEncodings kind limit (nodes_from nodes) bytes rest
  pub number_is : how_many_nodes (nodes_from nodes) ≡ number
  pub shallow : nodes_depth (nodes_from nodes) ≤ levels
  pub sorted : SortsEach (nodes_from nodes) ts

each_push : (us : List Node) (u t : Node) (ts : List Node) → SortsEach (nodes_from us) ts → SortsChildren u t
    → SortsEach (nodes_from (us ++ u ∷ [])) (ts ++ t ∷ [])
each_push [] u t ts p q = (t, [], ap (λ zs. zs ++ t ∷ []) p, q, refl)
each_push (x ∷ us) u t ts p q = (p.0, p.1 ++ t ∷ [], ap (λ zs. zs ++ t ∷ []) p.2, p.3, each_push us u t p.1 p.4 q)

module _ (kind : Kind) (limit : Option ℕ) (levels : ℕ) where
  pub no_row : (bytes : List ℕ) → IsRow kind limit levels 0 bytes [] bytes
  no_row bytes = record { nodes = []; spelled = refl; number_is = refl; shallow = omega arith; sorted = refl }

  pub row_push : (number : ℕ) (bytes middle rest : List ℕ) (ts : List Node) (t : Node) → 1 ≤ levels
      → IsRow kind limit levels number bytes ts middle → IsNode kind limit (levels - 1) middle t rest
      → IsRow kind limit levels (suc number) bytes (ts ++ t ∷ []) rest
  row_push number bytes middle rest ts t some p q = record {
    nodes = p.nodes ++ q.spelled ∷ [];
    spelled = spelled_push kind limit p.nodes q.spelled bytes middle rest p.spelled q.spells;
    number_is = number_push p.nodes q.spelled ∙ ap suc p.number_is;
    shallow = omega (arith, depth_push p.nodes q.spelled, p.shallow, q.shallow);
    sorted = each_push p.nodes q.spelled t ts p.sorted q.sorts;
  }

  pub same_row : (number : ℕ) (bytes rest end : List ℕ) (ts vs : List Node)
      → IsRow kind limit levels number bytes ts rest → IsRow kind limit levels number bytes vs end → ts ≡ vs
  same_row number bytes rest end ts vs p q =
      let same = (one_row kind limit (nodes_from p.nodes) (nodes_from q.nodes) bytes rest end
      (p.number_is ∙ sym q.number_is) p.spelled q.spelled).0 in
      each_once (nodes_from p.nodes) ts vs p.sorted (subst (λ (us : Nodes). SortsEach us vs) (sym same) q.sorted)

  -- a row that isn't empty has a first node, one level down
  pub record HasFirstNode (number : ℕ) (bytes rest : List ℕ) : Type 0 where
    pub first : Node
    pub after : List ℕ
    pub others : List Node
    pub level : 1 ≤ levels
    pub is_first : IsNode kind limit (levels - 1) bytes first after
    pub behind : IsRow kind limit levels (number - 1) after others rest

  first_by : (us ts : List Node) (number : ℕ) (bytes rest : List ℕ) → 0 < number
      → AreNodeEncodings kind limit (nodes_from us) bytes rest → how_many_nodes (nodes_from us) ≡ number
      → nodes_depth (nodes_from us) ≤ levels → SortsEach (nodes_from us) ts → HasFirstNode number bytes rest
  first_by [] ts number bytes rest some p e d s = absurd (omega arith)
  first_by (u ∷ us) ts number bytes rest some p e d s =
      record {
        first = s.0;
        after = p.0;
        others = s.1;
        level = omega arith;
        is_first = record { spelled = u; spells = p.1; shallow = omega arith; sorts = s.3 };
        behind = record { nodes = us; spelled = p.2; number_is = omega arith; shallow = omega arith; sorted = s.4 };
      }

  pub first_of : (number : ℕ) (bytes rest : List ℕ) (ts : List Node) → 0 < number
      → IsRow kind limit levels number bytes ts rest → HasFirstNode number bytes rest
  first_of number bytes rest ts some p =
      first_by p.nodes ts number bytes rest some p.spelled p.number_is p.shallow p.sorted

  -- the others follow a first node that was read
  pub others_of : (number : ℕ) (bytes after rest : List ℕ) (ts : List Node) (t : Node) → 0 < number
      → IsRow kind limit levels number bytes ts rest → IsNode kind limit (levels - 1) bytes t after
      → (vs : List Node) × IsRow kind limit levels (number - 1) after vs rest
  others_of number bytes after rest ts t some p q =
      let h = first_of number bytes rest ts some p in
      let same : h.after ≡ after = (one_subtree kind limit (levels - 1) bytes h.first t h.after after h.is_first q).1 in
      (h.others, subst (λ (l : List ℕ). IsRow kind limit levels (number - 1) l h.others rest) same h.behind)

  -- ---- a node with its row

  pub node_from : (bytes tail rest : List ℕ) (h : NodeHead) (ts vs : List Node) → roomy_head_at kind limit bytes
      ≡ Some (h, tail) → IsRow kind limit levels h.number tail ts rest → IsPermutation ts vs → NamesRise vs
      → IsNode kind limit levels bytes (node h.name h.id h.count (nodes_from vs)) rest
  node_from bytes tail rest h ts vs e p order rise = record {
    spelled = node h.name h.id h.count (nodes_from p.nodes);
    spells = (
      tail,
      subst (λ (n : ℕ). IsNodeHead kind limit bytes (record {
        name = h.name;
        count = h.count;
        id = h.id;
        number = n;
      }) tail) (sym p.number_is) (roomy_head_takes kind limit bytes h tail e).0,
      p.spelled,
    );
    shallow = p.shallow;
    sorts = (ts, p.sorted, (vs, order, rise, refl));
  }

  listed : (us : Nodes) → (ts : List Node) × (us ≡ nodes_from ts)
  listed none = ([], refl)
  listed (more u us) = let others = listed us in (u ∷ others.0, ap (more u) others.1)

  pub record HasRow (number : ℕ) (tail rest : List ℕ) : Type 0 where
    pub nodes : List Node
    pub row : IsRow kind limit levels number tail nodes rest
    pub ordered : List Node
    pub order : IsPermutation nodes ordered
    pub rise : NamesRise ordered

  row_by : (bytes tail rest : List ℕ) (h : NodeHead) (u t : Node) → IsNodeHead kind limit bytes h tail
      → IsNodeEncoding kind limit u bytes rest → node_depth u ≤ levels → SortsChildren u t → HasRow h.number tail rest
  row_by bytes tail rest h (node n i c us) t is p d s =
      let same = one_node_head kind limit bytes
      (record { name = n; count = c; id = i; number = how_many_nodes us }) h p.0 tail p.1 is in
      let number : how_many_nodes us ≡ h.number = ap (λ (x : NodeHead). x.number) same.0 in
      let kids : AreNodeEncodings kind limit us tail rest =
      subst (λ (l : List ℕ). AreNodeEncodings kind limit us l rest) same.1 p.2 in
      let list = listed us in
      record {
        nodes = s.0;
        row = record {
          nodes = list.0;
          spelled = subst (λ (vs : Nodes). AreNodeEncodings kind limit vs tail rest) list.1 kids;
          number_is = subst (λ (vs : Nodes). how_many_nodes vs ≡ h.number) list.1 number;
          shallow = subst (λ (vs : Nodes). nodes_depth vs ≤ levels) list.1 d;
          sorted = subst (λ (vs : Nodes). SortsEach vs s.0) list.1 s.1;
        };
        ordered = s.2.0;
        order = s.2.1;
        rise = s.2.2;
      }

  -- the row of a node whose head was read
  pub row_of : (bytes tail rest : List ℕ) (h : NodeHead) (t : Node) → roomy_head_at kind limit bytes ≡ Some (h, tail)
      → IsNode kind limit levels bytes t rest → HasRow h.number tail rest
  row_of bytes tail rest h t e p =
      row_by bytes tail rest h p.spelled t (roomy_head_takes kind limit bytes h tail e).0 p.spells p.shallow p.sorts

  -- if no head is read, there is no node
  pub none_at : (bytes : List ℕ) → roomy_head_at kind limit bytes ≡ None → (t : Node) (rest : List ℕ)
      → IsNode kind limit levels bytes t rest → ⊥
  none_at bytes e t rest p = no_node kind limit p.spelled bytes rest e p.spells
