-- The items of an accepted program can be compiled and linked.
use Rattle.std.proofs.Common.{◌≡◌, ℕ, ◌+◌, ◌≤◌, ◌⊎◌, inl, inr, Bool, true, false, not, cond, ◌||◌, List, [], ◌∷◌, map, length, refl, sym, ◌∙◌, ap, zero-add, arith}
use Rattle.std.specs.Prelude.{All, Contains, filter}
use Rattle.std.specs.List.{enumerate_from}
use Rattle.std.proofs.lemmas.Bool.{cases_Bool, eq-eqb, leb-true}
use Rattle.std.proofs.lemmas.List.Elements.{All-nil, All-head, All-tail, All-contains, All-map, All-weaker, filter_passes}
use Rattle.std.proofs.lemmas.List.FromFn.{length-enumerate_from, get_or-enumerate_from}
use Rattle.std.proofs.lemmas.Option.{slice_get_within, get_or_from_slice_get}
use Rattle.mm_terms.specs.declared.item.Item.{Item}
use Rattle.mm_terms.specs.declared.ty_head.TyHead.{TyHead}
use Rattle.mm_terms.specs.declared.tree.Tree.{Tree}
use Rattle.mm_terms.specs.Closure.{IsMember}
use Rattle.mm_terms.specs.Length.{length_of, lengths_of, item_length, length_of-node, item_length-types, length_of-le_lengths_of, lengths_of-cons}
use Rattle.mm_terms.specs.Order.{types_of}
use Rattle.mm_terms.specs.Tree.{node, tree_ind, tree_fold-node}
use Rattle.mm_terms.proofs.ClosureLemmas.{member_root, member_used, least}
use Rattle.mm_plain.specs.declared.program.Program.{Program}
use Rattle.mm_plain.specs.declared.program.Opts.{Opts}
use Rattle.mm_plain.specs.Roots.{is_exported, is_root, item_of, roots_of, main_item}
use Rattle.mm_plain.specs.Uses.{candidates_of, is_within, note_of, uses_of}
use Rattle.mm_plain.specs.Verdict.{IsAccepted}
use Rattle.mm_plain.specs.WellFormed.{IsWellFormed, IsInstanceIn}
use Rattle.mm_collect.proofs.InstanceLemmas.{members_are}
use Rattle.mm_symbols.specs.ItemForms.{depth_of, greatest}
use Rattle.mm_objects.specs.Emitted.{UseThemselves}
use Rattle.mm_emit.specs.Complete.{IsComplete}
use Rattle.mm_tool.specs.Report.{IsMeant, Means}
use Rattle.mm_tool.proofs.NamedPrograms.{means_krate, means_names, means_well_formed}
use Rattle.mm_terms.proofs.ListLemmas.{Contains-map, Contains-filter}

-- ---- depths

-- where types nest no deeper than they are long, the deepest is no deeper than all of them are long
deepest_within : (ts : List Tree) → All (λ t. depth_of t ≤ length_of t) ts → greatest (map depth_of ts) ≤ lengths_of ts
deepest_within [] each = omega arith
deepest_within (t ∷ ts) each =
    let first : depth_of t ≤ length_of t = All-head (λ s. depth_of s ≤ length_of s) t ts each in
    omega (arith, lengths_of-cons t ts, first, deepest_within ts (All-tail (λ s. depth_of s ≤ length_of s) t ts each))

depth_node : (head : TyHead) (children : List Tree) → depth_of (node head children) ≡ greatest (map depth_of children) + 1
unfolding depth_of
depth_node head children = tree_fold-node (λ h depths. greatest depths + 1) head children

-- a type nests no deeper than it is long
depth_within : (t : Tree) → depth_of t ≤ length_of t
depth_within =
    tree_ind (λ t. depth_of t ≤ length_of t) (λ head children each.
    omega (arith, depth_node head children, length_of-node head children, deepest_within children each))

-- types of an item are no deeper than the item is long
types_within : (n : ℕ) (x : Item) → item_length x ≤ n → All (λ t. depth_of t ≤ n) (types_of x)
types_within n x short =
    let whole = item_length-types x in
    All-weaker (λ t. length_of t ≤ lengths_of (types_of x)) (λ t. depth_of t ≤ n)
    (λ t within. omega (arith, depth_within t, within, whole, short)) (types_of x) (length_of-le_lengths_of (types_of x))

-- ---- members

abbrev IsShallow : Item → Type 0
IsShallow x = All (λ t. depth_of t ≤ 4096) (types_of x)

module _ (p : Program) (limit : ℕ) where
  root_shallow : (x : Item) → Contains (roots_of p) x → IsShallow x
  root_shallow x root =
      All-contains IsShallow (roots_of p) x
      (All-map IsShallow (λ one. item_of one.0) (filter (is_root p) (enumerate_from 0 p.functions)) (λ k d within. All-nil (λ t. depth_of t ≤ 4096))) root

  used_shallow : limit ≤ 2048 → (x y : Item) → Contains (uses_of p limit x) y → IsShallow y
  used_shallow small x y used =
      let within = leb-true (item_length y) limit (All-contains (λ z. is_within limit z ≡ true) (uses_of p limit x) y (filter_passes (is_within limit) (candidates_of p x)) used) in
      types_within 4096 y (omega (arith, within, small))

  member_shallow : limit ≤ 2048 → (x : Item) → IsMember (roots_of p) (uses_of p limit) x → IsShallow x
  member_shallow small x member = least (roots_of p) (uses_of p limit) IsShallow root_shallow (λ y z shallow used. used_shallow small y z used) x member

-- ---- the item that a run begins with

or_right : (a : Bool) → (a || true) ≡ true
or_right true = refl
or_right false = refl

module _ (p : Program) (well : IsWellFormed p) where
  main_numbered : Contains (enumerate_from 0 p.functions) (p.main.0, well.main.main)
  main_numbered =
      let k = p.main.0 in
      let f = well.main.main in
      let within = slice_get_within p.functions k f well.main.named in (
        k,
        omega (arith, within, length-enumerate_from 0 p.functions),
        get_or-enumerate_from 0 p.functions k (k, f) within ∙ (λ i. (zero-add k i, get_or_from_slice_get p.functions k f f well.main.named i)),
      )

  main_root : Contains (roots_of p) (main_item p)
  main_root =
      let is : is_root p (p.main.0, well.main.main) ≡ true = ap (λ b. is_exported p (p.main.0, well.main.main) || b) (eq-eqb p.main.0 p.main.0 refl) ∙ or_right (is_exported p (p.main.0, well.main.main)) in
      Contains-map (λ one. item_of one.0) (filter (is_root p) (enumerate_from 0 p.functions)) (p.main.0, well.main.main)
      (Contains-filter (is_root p) (enumerate_from 0 p.functions) (p.main.0, well.main.main) main_numbered is)

-- ---- items of an accepted program

module _ (p : Program) (opts : Opts) (items : List Item) (accepted : IsAccepted p opts items) where
  member : (x : Item) → Contains items x → IsMember (roots_of p) (uses_of p opts.length) x
  member x here = All-contains (IsMember (roots_of p) (uses_of p opts.length)) items x accepted.members.each here

  -- what an item uses is within the limit, since nothing is noted
  use_themselves : UseThemselves p items
  use_themselves x y here used = elim (cases_Bool (is_within opts.length y)) [
    | inl within ↦ accepted.members.all y (member_used (roots_of p) (uses_of p opts.length) x y (member x here) (Contains-filter (is_within opts.length) (candidates_of p x) y used within))
    | inr beyond ↦
        let noted = Contains-filter (λ z. not (is_within opts.length z)) (candidates_of p x) y used (ap not beyond) in
        absurd (accepted.none (note_of p y) (x, member x here, Contains-map (note_of p) (filter (λ z. not (is_within opts.length z)) (candidates_of p x)) y noted))
  ]

pub complete : (text : List ℕ) (p : Program) (opts : Opts) (items : List Item) → Means text p → opts.length ≤ 2048 → IsAccepted p opts items → IsComplete p items
complete text p opts items means small accepted =
    let well = means_well_formed text p means in
    let from : (P : Item → Type 0) → ((x : Item) → IsMember (roots_of p) (uses_of p opts.length) x → P x) → All P items =
    λ P each. All-weaker (IsMember (roots_of p) (uses_of p opts.length)) P each items accepted.members.each in
    record {
      well_formed = well;
      krate = means_krate text p means;
      names = means_names text p means;
      instances = from (IsInstanceIn p) (λ x is. members_are p opts.length x well is);
      once = accepted.members.once;
      main = accepted.members.all (main_item p) (member_root (roots_of p) (uses_of p opts.length) (main_item p) (main_root p well));
      uses = use_themselves p opts items accepted;
      shallow = from IsShallow (member_shallow p opts.length small);
    }

pub items_complete : (p : Program) (opts : Opts) (items : List Item) → IsMeant p → opts.length ≤ 2048 → IsAccepted p opts items → IsComplete p items
items_complete p opts items meant small accepted = complete meant.text p opts items meant.means small accepted
