-- The function with which a run begins, at the top of a crate that keeps the rule on it.
use Rattle.std.proofs.Common.{◌≡◌, ℕ, ◌&&◌, Bool, true, false, not, [], codes, flat_map, length, nat_eq, refl, sym, ap, ◌∙◌, subst}
use Rattle.std.specs.Prelude.{Contains}
use Rattle.std.specs.List.{list_any}
use Rattle.std.proofs.lemmas.Bool.{false≢true, eqb-true}
use Rattle.std.proofs.lemmas.List.Elements.{Contains-append_left, Contains-append_right}
use Rattle.std.proofs.lemmas.List.Folds.{Any-from_list_any}
use Rattle.mm_ast.specs.declared.items.Crate.{Crate}
use Rattle.mm_ast.specs.declared.items.Definition.{Definition}
use Rattle.mm_ast.specs.declared.items.DefinitionForm.{DefinitionForm}
use Rattle.mm_ast.specs.declared.items.DefinitionForm.TheVariants as definitions
use Rattle.mm_ast.specs.declared.items.Function.{Function}
use Rattle.mm_ast.specs.declared.items.Item.{Item}
use Rattle.mm_ast.specs.declared.items.ItemForm.{ItemForm}
use Rattle.mm_ast.specs.declared.items.ItemForm.TheVariants as forms
use Rattle.mm_definitions.specs.Trees.{form_of, item_line}
use Rattle.mm_resolve.specs.Doubles.{line_if}
use Rattle.mm_rules.specs.MainRule.{is_entry, is_called_main, of_function, is_function, is_main, bad_entry, bad_main_in}
use Rattle.mm_terms.proofs.ListLemmas.{and_left, and_right, Contains-flat_map, Contains-here, Contains-nil, same_bytes}

-- a function of which the test holds
record IsFunction (test : Function → Bool) (form : ItemForm) : Type 0 where
  definition : Definition
  function : Function
  is : form ≡ forms.Definition definition
  of : definition.form ≡ definitions.Function function
  passes : test function ≡ true

-- a function `main` at the top of the crate, with which a run can begin
pub record HasEntry (k : Crate) : Type 0 where
  pub item : Item
  pub among : Contains k.items item
  pub definition : Definition
  pub function : Function
  pub is : form_of item ≡ forms.Definition definition
  pub of : definition.form ≡ definitions.Function function
  pub called : function.name.text ≡ codes "main"
  pub type_params : length function.type_params ≡ 0
  pub params : length function.signature.params ≡ 0

defined_function : (test : Function → Bool) (definition : Definition) (form : DefinitionForm) → definition.form ≡ form → of_function test form ≡ true → IsFunction test (forms.Definition definition)
defined_function test definition (definitions.Function f) is passes = record { definition = definition; function = f; is = refl; of = is; passes = passes }
defined_function test definition _ is passes = absurd (false≢true passes)

function_of : (test : Function → Bool) (form : ItemForm) → is_function test form ≡ true → IsFunction test form
function_of test (forms.Definition definition) passes = defined_function test definition definition.form refl passes
function_of test _ passes = absurd (false≢true passes)

-- ---- lines at which the rule fails

not_failing : (b : Bool) (line : ℕ) → (Contains (line_if b line) line → ⊥) → b ≡ false
not_failing true line none = absurd (none (Contains-here line []))
not_failing false line none = refl

from_not : (b : Bool) → not b ≡ false → b ≡ true
from_not true is = refl
from_not false is = absurd (false≢true (sym is))

-- where one is so, the other is so too
follows : (a b : Bool) → (a && not b) ≡ false → a ≡ true → b ≡ true
follows true b is so = from_not b is
follows false b is so = absurd (false≢true so)

module _ (k : Crate) (kept : bad_main_in k ≡ []) where
  abbrev bad : Item → Bool
  bad item = is_function (λ f. is_called_main f && not (is_entry f)) (form_of item)

  no_line : (line : ℕ) → Contains (bad_main_in k) line → ⊥
  no_line line has = Contains-nil line (subst (λ ls. Contains ls line) kept has)

  -- one is called so
  one_main : list_any is_main k.items ≡ true
  unfolding bad_main_in
  one_main =
      from_not (list_any is_main k.items)
      (not_failing (not (list_any is_main k.items)) k.line
      (λ has. no_line k.line (Contains-append_right (flat_map bad_entry k.items) (line_if (not (list_any is_main k.items)) k.line) k.line has)))

  -- each that is called so is an entry
  none_bad : (item : Item) → Contains k.items item → bad item ≡ false
  unfolding bad_main_in
  none_bad item among =
      not_failing (bad item) (item_line item)
      (λ has. no_line (item_line item)
      (Contains-append_left (flat_map bad_entry k.items) (line_if (not (list_any is_main k.items)) k.line) (item_line item)
      (Contains-flat_map bad_entry k.items item (item_line item) among has)))

  entry_is : (item : Item) → Contains k.items item → IsFunction is_called_main (form_of item) → HasEntry k
  entry_is item among main =
      let f = main.function in
      let no_other : (is_called_main f && not (is_entry f)) ≡ false =
      sym (ap (is_function (λ f. is_called_main f && not (is_entry f))) main.is ∙ ap (of_function (λ f. is_called_main f && not (is_entry f))) main.of) ∙ none_bad item among in
      let entry = follows (is_called_main f) (is_entry f) no_other main.passes in
      let bare = and_left (nat_eq (length f.type_params) 0 && nat_eq (length f.signature.params) 0) (not f.is_inline) entry in
      record {
        item = item;
        among = among;
        definition = main.definition;
        function = f;
        is = main.is;
        of = main.of;
        called = same_bytes f.name.text (codes "main") main.passes;
        type_params = eqb-true (length f.type_params) 0 (and_left (nat_eq (length f.type_params) 0) (nat_eq (length f.signature.params) 0) bare);
        params = eqb-true (length f.signature.params) 0 (and_right (nat_eq (length f.type_params) 0) (nat_eq (length f.signature.params) 0) bare);
      }

  pub entry_in : HasEntry k
  entry_in =
      let any = Any-from_list_any is_main k.items one_main in
      let item = any.1 in
      entry_is item (any.0, any.2, any.3) (function_of is_called_main (form_of item) any.4)
