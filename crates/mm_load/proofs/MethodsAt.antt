-- A trait has its methods at their places, each with the type parameters of the trait before its own.
use Rattle.std.proofs.Common.{◌≡◌, ℕ, zero, suc, ◌+◌, Bool, List, [], ◌∷◌, length, Some, sym, ap, ◌∙◌, subst, arith}
use Rattle.std.specs.Prelude.{slice_get}
use Rattle.std.proofs.lemmas.Option.{same_Some}
use Rattle.mm_ast.specs.declared.items.DefinitionForm.{DefinitionForm}
use Rattle.mm_ast.specs.declared.items.DefinitionForm.TheVariants as definitions
use Rattle.mm_ast.specs.declared.items.ItemForm.{ItemForm}
use Rattle.mm_ast.specs.declared.items.ItemForm.TheVariants as forms
use Rattle.mm_ast.specs.declared.items.Method.{Method}
use Rattle.mm_ast.specs.declared.items.Trait.{Trait}
use Rattle.mm_definitions.specs.declared.named.Named.{Named}
use Rattle.mm_definitions.specs.Paths.{path_in}
use Rattle.mm_lower.specs.Items.{Site, ids_behind, method_part, trait_parts, definition_parts, parts_of}
use Rattle.mm_lower.specs.Params.{self_name, texts}
use Rattle.mm_lower.specs.Paths.{Paths, def_id}
use Rattle.mm_program.specs.declared.parts.Parts.{Parts}
use Rattle.mm_program.specs.Bodies.{method_at}
use Rattle.mm_program.specs.Views.{type_params_of}
use Rattle.mm_load.specs.Leads.{HasMethod}
use Rattle.mm_load.proofs.ItemNames.{trait_in, defined_trait, IsMethodOf}
use Rattle.mm_load.proofs.PartsStand.{Stand, first_stands, later_stands, type_params_are, methods_are}

-- the number of a member
id_at : {X : Type 0} (n : ℕ) (xs : List X) (k : ℕ) (x : X) → slice_get xs k ≡ Some x → slice_get (ids_behind n xs) k ≡ Some (def_id (n + 1 + k))
id_at n [] k x at = absurd (cc at)
id_at n (y ∷ xs) zero x at = let same : suc n ≡ n + 1 + 0 = omega arith in ap (λ j. Some (def_id j)) same
id_at n (y ∷ xs) (suc k) x at = let same : suc n + 1 + k ≡ n + 1 + suc k = omega arith in id_at (suc n) xs k x at ∙ ap (λ j. Some (def_id j)) same

module _ (p : Parts) (paths : Paths) (site : Site) where
  -- ---- a trait

  module _ (is_pub : Bool) (t : Trait) (stand : Stand p site.number (trait_parts paths site is_pub t)) (place : ℕ) (m : Method) (at : slice_get t.methods place ≡ Some m) where
    method_there : method_at p (def_id site.number) place ≡ Some (def_id (site.number + 1 + place))
    unfolding trait_parts
    method_there = ap (λ ids. slice_get ids place) (methods_are (first_stands p site.number _ _ stand)) ∙ id_at site.number t.methods place m at

    method_type_params : type_params_of p (def_id site.number) + length m.type_params ≡ type_params_of p (def_id (site.number + 1 + place))
    unfolding trait_parts method_part
    method_type_params =
        let outer = self_name ∷ texts t.type_params in
        let method = later_stands p site.number _ (method_part paths site is_pub (path_in site.prefix t.name.text) outer) t.methods stand place m at in
        ap (λ k. k + length m.type_params) (type_params_are (first_stands p site.number _ _ stand)) ∙ sym (type_params_are method)

  -- ---- an item that is a trait

  definition_is : (is_pub : Bool) (form : DefinitionForm) (t : Trait) → defined_trait form ≡ Some t → Stand p site.number (definition_parts paths site is_pub form) → Stand p site.number (trait_parts paths site is_pub t)
  unfolding definition_parts
  definition_is is_pub (definitions.Trait s) t is stand = subst (λ u. Stand p site.number (trait_parts paths site is_pub u)) (same_Some s t is) stand
  definition_is is_pub form t is stand = absurd (cc is)

  item_is : (form : ItemForm) (t : Trait) → trait_in form ≡ Some t → Stand p site.number (parts_of paths site form) → (is_pub : Bool) × Stand p site.number (trait_parts paths site is_pub t)
  unfolding parts_of
  item_is (forms.Definition definition) t is stand = (definition.is_pub, definition_is definition.is_pub definition.form t is stand)
  item_is form t is stand = absurd (cc is)

  pub has_method : (form : ItemForm) (tr m : Named) → Stand p site.number (parts_of paths site form) → tr.def ≡ def_id site.number → IsMethodOf site.number (trait_in form) m → HasMethod p tr m
  has_method form tr m stand number of =
      let found = item_is form of.of of.is stand in
      record {
        there = ap (λ d. method_at p d m.place) number ∙ method_there found.0 of.of found.1 m.place of.method of.there ∙ ap Some (sym of.number);
        type_params =
            ap (λ d. type_params_of p d + m.type_params) number
            ∙ ap (λ k. type_params_of p (def_id site.number) + k) of.type_params
            ∙ method_type_params found.0 of.of found.1 m.place of.method of.there
            ∙ ap (type_params_of p) (sym of.number);
      }
