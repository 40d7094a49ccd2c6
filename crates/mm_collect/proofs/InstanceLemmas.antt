-- The items of a well-formed program are instances of its functions.
use Rattle.std.proofs.Common.{◌≡◌, ℕ, ◌<◌, List, [], ◌∷◌, length, get_or, Bool, true, false, not, ◌||◌, nat_eq, Some, refl, sym, ◌∙◌, ap, subst, zero-add, arith}
use Rattle.std.specs.Prelude.{All, filter, flat_map, slice_get, nat_lt, ◌&&◌}
use Rattle.std.specs.List.{enumerate_from}
use Rattle.std.proofs.lemmas.Bool.{eqb-true, ltb-false}
use Rattle.std.proofs.lemmas.List.{length-map}
use Rattle.std.proofs.lemmas.List.Elements.{All-nil, All-cons, All-head, All-tail, All-append, All-map, All-filter, filter_passes, All-contains}
use Rattle.std.proofs.lemmas.List.FromFn.{length-enumerate_from, get_or-enumerate_from}
use Rattle.std.proofs.lemmas.Option.{slice_get-get_or, slice_get_within, get_or_from_slice_get}
use Rattle.mm_terms.specs.declared.item.Item.{Item}
use Rattle.mm_terms.specs.declared.item.Item.TheVariants.{Fn, Glue, Shim, Static}
use Rattle.mm_terms.specs.declared.tree.Tree.{Tree}
use Rattle.mm_terms.specs.Closure.{IsMember}
use Rattle.mm_terms.specs.Substitution.{subst as put_in, subst-below, IsFormed-subst}
use Rattle.mm_terms.proofs.ClosureLemmas.{least}
use Rattle.mm_plain.specs.declared.program.Program.{Program}
use Rattle.mm_plain.specs.declared.program.Function.{Function}
use Rattle.mm_plain.specs.declared.program.Call.{Call}
use Rattle.mm_plain.specs.declared.program.End.{End}
use Rattle.mm_plain.specs.declared.program.End.TheVariants as end
use Rattle.mm_plain.specs.Roots.{is_generic, is_root, is_exported, is_named, generic_calls, item_of, roots_of}
use Rattle.mm_plain.specs.Uses.{end_calls, calls_of, called, body_candidates, candidates_of, uses_of, is_within}
use Rattle.mm_plain.specs.WellFormed.{IsTypeUnder, IsCallIn, IsEndIn, IsFunctionIn, IsWellFormed, IsInstanceIn}
use Rattle.mm_plain.proofs.PlainLemmas.{plain-subst}
use Rattle.mm_terms.proofs.ListLemmas.{All-flat_map, All-slice_get, All-passing}

-- ---- roots

or_cases : (a b : Bool) → (a || b) ≡ true → b ≡ false → a ≡ true
or_cases true b h other = refl
or_cases false true h other = cc
or_cases false false h other = h

not_generic : (generic marked : Bool) → (not generic && marked) ≡ true → generic ≡ false
not_generic false marked h = refl
not_generic true marked h = cc

zero_params : (n : ℕ) → nat_lt 0 n ≡ false → n ≡ 0
zero_params n h = let none = ltb-false 0 n h in omega (arith, none)

-- the function at a place, where it has no type parameters, has one instance
sole : (p : Program) (id : ℕ) (f : Function) → slice_get p.functions id ≡ Some f → f.type_params ≡ 0 → IsInstanceIn p (item_of id)
sole p id f at none = record { function = f; named = at; type_args = sym none; types = All-nil (IsTypeUnder 0) }

module _ (p : Program) (well : IsWellFormed p) where
  root_by : (id : ℕ) (f : Function) → slice_get p.functions id ≡ Some f → (is_main : Bool) → nat_eq id p.main.0 ≡ is_main → is_root p (id, f) ≡ true → IsInstanceIn p (item_of id)
  root_by id f at true same root =
      let main = well.main in
      sole p id main.main (ap (slice_get p.functions) (eqb-true id p.main.0 same) ∙ main.named) main.no_type_params
  root_by id f at false other root =
      let exported = or_cases (is_exported p (id, f)) (nat_eq id p.main.0) root other in
      sole p id f at (zero_params f.type_params (not_generic (is_generic f) (f.is_pub || is_named (generic_calls p) id) exported))

  each_root : All (λ one. is_root p one ≡ true → IsInstanceIn p (item_of one.0)) (enumerate_from 0 p.functions)
  each_root k d within root =
      let inside : k < length p.functions = omega (arith, within, length-enumerate_from 0 p.functions) in
      let f : Function = get_or p.functions k d.1 in
      let is : get_or (enumerate_from 0 p.functions) k d ≡ (k, f) = get_or-enumerate_from 0 p.functions k d inside ∙ (λ i. (zero-add k i, f)) in
      subst (λ one. is_root p one ≡ true → IsInstanceIn p (item_of one.0)) (sym is)
      (root_by k f (slice_get-get_or p.functions k d.1 inside) (nat_eq k p.main.0) refl) root

  pub roots_are : All (IsInstanceIn p) (roots_of p)
  roots_are =
      All-map (IsInstanceIn p) (λ one. item_of one.0) (filter (is_root p) (enumerate_from 0 p.functions))
      (All-passing (λ one. IsInstanceIn p (item_of one.0)) (is_root p) (enumerate_from 0 p.functions) each_root)

-- ---- uses

-- a type under as many parameters as there are arguments has none once the arguments are put in
type_called : (args : List Tree) → All (IsTypeUnder 0) args → (t : Tree) → IsTypeUnder (length args) t → IsTypeUnder 0 (put_in args t)
type_called args each t type =
    record {
      formed = IsFormed-subst args (λ k d within. (each k d within).formed) t type.formed type.params;
      params = subst-below 0 args (λ k d within. (each k d within).params) t type.params;
      plain = plain-subst args (λ k d within. (each k d within).plain) t type.plain type.params;
    }

module _ (p : Program) (f : Function) (args : List Tree) (count : length args ≡ f.type_params) (each : All (IsTypeUnder 0) args) where
  call_names : (call : Call) → IsCallIn p f call → IsInstanceIn p (called args call)
  call_names call is =
      record {
        function = is.callee;
        named = is.named;
        type_args = length-map call.args (put_in args) ∙ is.type_args;
        types =
            All-map (IsTypeUnder 0) (put_in args) call.args
            (λ k d within. type_called args each (get_or call.args k d) (subst (λ n. IsTypeUnder n (get_or call.args k d)) (sym count) (is.types k d within)));
      }

  end_names : (e : End) → IsEndIn p f e → All (λ call. IsInstanceIn p (called args call)) (end_calls e)
  end_names (end.Call call) is = All-cons (λ call. IsInstanceIn p (called args call)) call [] (call_names call is) (All-nil (λ call. IsInstanceIn p (called args call)))
  end_names end.Return is = All-nil (λ call. IsInstanceIn p (called args call))
  end_names end.Unreachable is = All-nil (λ call. IsInstanceIn p (called args call))
  end_names (end.Goto label) is = All-nil (λ call. IsInstanceIn p (called args call))
  end_names (end.Switch only arms label) is = All-nil (λ call. IsInstanceIn p (called args call))

  body_names : IsFunctionIn p f → All (IsInstanceIn p) (body_candidates args (Some f))
  body_names is =
      All-map (IsInstanceIn p) (called args) (calls_of f)
      (All-flat_map (λ call. IsInstanceIn p (called args call)) (λ block. end_calls block.end) f.blocks
      (λ k d within. end_names (get_or f.blocks k d).end (is.blocks k d within).end))

-- what an instance uses are instances
pub candidates_are : (p : Program) (x : Item) → IsWellFormed p → IsInstanceIn p x → All (IsInstanceIn p) (candidates_of p x)
candidates_are p (Fn d args) well is =
    subst (λ found. All (IsInstanceIn p) (body_candidates args found)) (sym is.named)
    (body_names p is.function args is.type_args is.types (All-slice_get (IsFunctionIn p) p.functions d.0 is.function well.functions is.named))
candidates_are p (Glue t) well is = absurd is
candidates_are p (Shim t) well is = absurd is
candidates_are p (Static d) well is = absurd is

-- so each member is one
pub members_are : (p : Program) (limit : ℕ) (x : Item) → IsWellFormed p → IsMember (roots_of p) (uses_of p limit) x → IsInstanceIn p x
members_are p limit x well member =
    least (roots_of p) (uses_of p limit) (IsInstanceIn p)
    (λ y root. All-contains (IsInstanceIn p) (roots_of p) y (roots_are p well) root)
    (λ y z is used. All-contains (IsInstanceIn p) (uses_of p limit y) z
    (All-filter (is_within limit) (IsInstanceIn p) (candidates_of p y) (candidates_are p y well is)) used)
    x member
