-- An item at the top of a crate is one of the text, in the scope of the crate.
use Rattle.std.proofs.Common.{◌≡◌, ℕ, zero, suc, ◌+◌, ⊎_elim, List, [], ◌∷◌, Some, take, refl, sym, ap, ◌∙◌, subst, arith}
use Rattle.std.specs.Prelude.{Contains, slice_get}
use Rattle.std.proofs.lemmas.List.Elements.{Contains-append_left, Contains-append_right}
use Rattle.std.proofs.lemmas.Option.{none-some, same_Some}
use Rattle.mm_ast.specs.declared.items.Crate.{Crate}
use Rattle.mm_ast.specs.declared.items.Definition.{Definition}
use Rattle.mm_ast.specs.declared.items.Item.{Item}
use Rattle.mm_ast.specs.declared.items.ItemForm.TheVariants as forms
use Rattle.mm_definitions.specs.Placed.{Placed, alone, size, item_placed, placed_in}
use Rattle.mm_definitions.specs.Trees.{form_of}
use Rattle.mm_definitions.proofs.DefinitionLemmas.{definition_placed}
use Rattle.mm_resolve.specs.Scopes.{Scope}
use Rattle.mm_rules.specs.TreeFaults.{Reached, start, entered, behind, scope_of}
use Rattle.mm_terms.proofs.ListLemmas.{Contains-cons_cases, Contains-flat_map, Contains-here, Contains-later, Contains-nil}
use Rattle.mm_load.specs.Located.{Located, located, located_from, located_in, items_of}

-- it is among items, in this scope
pub record IsAmong (ls : List Located) (scope : Scope) (p : Placed) : Type 0 where
  pub item : Located
  pub among : Contains ls item
  pub scope_is : item.scope ≡ scope
  pub prefix : item.prefix ≡ p.prefix
  pub form : item.form ≡ p.form

of_crate : (c : ℕ) (scope : Scope) (n : ℕ) (ps : List Placed) (p : Placed) → Contains ps p → IsAmong (located_from c scope n ps) scope p
of_crate c scope n [] p has = absurd (Contains-nil p has)
of_crate c scope n (q ∷ ps) p has = ⊎_elim first (λ rest. later (of_crate c scope (n + size q.form) ps p rest)) (Contains-cons_cases q ps p has)
  where
    first : q ≡ p → IsAmong (located_from c scope n (q ∷ ps)) scope p
    first same = record {
      item = located c scope n q;
      among = Contains-here (located c scope n q) (located_from c scope (n + size q.form) ps);
      scope_is = refl;
      prefix = ap (λ r. r.prefix) same;
      form = ap (λ r. r.form) same;
    }

    later : IsAmong (located_from c scope (n + size q.form) ps) scope p → IsAmong (located_from c scope n (q ∷ ps)) scope p
    later from = record {
      item = from.item;
      among = Contains-later (located c scope n q) (located_from c scope (n + size q.form) ps) from.item from.among;
      scope_is = from.scope_is;
      prefix = from.prefix;
      form = from.form;
    }

of_crates : (c : ℕ) (reached : Reached) (ks : List Crate) (i : ℕ) (k : Crate) (p : Placed) → slice_get ks i ≡ Some k → Contains (placed_in k) p
    → IsAmong (located_in c reached ks) (behind reached (take (suc i) ks)).scope p
of_crates c reached [] i k p at has = absurd (none-some k at)
of_crates c reached (j ∷ ks) zero k p at has =
    let here = located_from c (entered reached j).scope reached.count (placed_in j) in
    let from = of_crate c (entered reached j).scope reached.count (placed_in j) p (subst (λ k. Contains (placed_in k) p) (sym (same_Some j k at)) has) in
    record {
      item = from.item;
      among = Contains-append_left here (located_in (c + 1) (entered reached j) ks) from.item from.among;
      scope_is = from.scope_is;
      prefix = from.prefix;
      form = from.form;
    }
of_crates c reached (j ∷ ks) (suc i) k p at has =
    let here = located_from c (entered reached j).scope reached.count (placed_in j) in
    let from = of_crates (c + 1) (entered reached j) ks i k p at has in
    record {
      item = from.item;
      among = Contains-append_right here (located_in (c + 1) (entered reached j) ks) from.item from.among;
      scope_is = from.scope_is;
      prefix = from.prefix;
      form = from.form;
    }

-- a definition at the top of the crate at an index
pub top_item : (crates : List Crate) (i : ℕ) (k : Crate) (item : Item) (definition : Definition) → slice_get crates i ≡ Some k → Contains k.items item → form_of item ≡ forms.Definition definition
    → IsAmong (items_of crates) (scope_of crates i) (record { prefix = k.name.text; form = forms.Definition definition })
unfolding items_of placed_in
top_item crates i k item definition at has is =
    let p : Placed = record { prefix = k.name.text; form = forms.Definition definition } in
    let alone_is : item_placed item k.name.text ≡ alone k.name.text (forms.Definition definition) = definition_placed item k.name.text definition is ∙ ap (alone k.name.text) is in
    let of = Contains-flat_map (λ item. item_placed item k.name.text) k.items item p has (subst (λ ps. Contains ps p) (sym alone_is) (Contains-here p [])) in
    let e : suc i ≡ i + 1 = omega arith in
    subst (λ m. IsAmong (located_in 0 start crates) (behind start (take m crates)).scope p) e (of_crates 0 start crates i k p at of)
