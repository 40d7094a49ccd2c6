-- Names of which none stands before already are apart.
use Rattle.std.proofs.Common.{◌≡◌, ℕ, ⊎_elim, List, [], ◌∷◌, ◌++◌, map, flat_map, true, None, Some, refl, sym, ◌∙◌, ap, subst}
use Rattle.std.specs.declared.option.Option.{Option}
use Rattle.std.specs.Prelude.{All, Contains}
use Rattle.std.specs.List.{filter_map, cons_option}
use Rattle.std.specs.Option.{option_map}
use Rattle.std.specs.Str.{bytes_eq}
use Rattle.std.proofs.lemmas.List.Elements.{All-nil, All-cons, All-head, All-tail, All-weaker, Contains-append_left, Contains-push}
use Rattle.std.proofs.lemmas.List.Folds.{list_any_at}
use Rattle.std.proofs.lemmas.Option.{same_Some}
use Rattle.mm_ast.specs.declared.items.Crate.{Crate}
use Rattle.mm_ast.specs.declared.items.Item.{Item}
use Rattle.mm_ast.specs.declared.names.Name.{Name}
use Rattle.mm_names.proofs.RunLemmas.{mapped}
use Rattle.mm_resolve.specs.Doubles.{line_if, again, repeated, Member, member_of, double_among, double_in_items, doubled}
use Rattle.mm_terms.proofs.ListLemmas.{All-from_contains, All-from_map, Contains-cons_cases, Contains-nil, bytes_same}
use Rattle.mm_load.proofs.Apart.{IsOther, AreApart, apart_of}

-- ---- nothing in a list that is put together

no_parts : {A : Type 0} (xs ys : List A) → xs ++ ys ≡ [] → (xs ≡ []) × (ys ≡ [])
no_parts [] ys none = (refl, none)
no_parts (x ∷ xs) ys none = absurd (cc none)

none_each : {A B : Type 0} (f : A → List B) (xs : List A) → flat_map f xs ≡ [] → All (λ x. f x ≡ []) xs
none_each f [] none = All-nil (λ x. f x ≡ [])
none_each f (x ∷ xs) none =
    let parts = no_parts (f x) (flat_map f xs) none in
    All-cons (λ x. f x ≡ []) x xs parts.0 (none_each f xs parts.1)

-- ---- a list of names

not_again : (texts : List (List ℕ)) (name : Name) → again texts name ≡ [] → Contains texts name.text → ⊥
not_again texts name none has =
    let there = list_any_at (bytes_eq name.text) texts has.0 name.text has.1 (ap (bytes_eq name.text) has.2 ∙ bytes_same name.text) in
    let line : line_if true name.line ≡ [] = ap (λ b. line_if b name.line) (sym there) ∙ none in
    absurd (cc line)

not_before : (texts : List (List ℕ)) (names : List Name) (name : Name) → repeated texts names ≡ [] → Contains texts name.text → Contains names name → ⊥
not_before texts [] name none before has = Contains-nil name has
not_before texts (first ∷ names) name none before has =
    let parts = no_parts (again texts first) (repeated (texts ++ first.text ∷ []) names) none in
    ⊎_elim (λ same. not_again texts first parts.0 (subst (λ n. Contains texts n.text) (sym same) before))
    (λ later. not_before (texts ++ first.text ∷ []) names name parts.1 (Contains-append_left texts (first.text ∷ []) name.text before) later)
    (Contains-cons_cases first names name has)

names_apart : (texts : List (List ℕ)) (names : List Name) → repeated texts names ≡ [] → AreApart (λ n. Some n.text) names
names_apart texts [] none = tt
names_apart texts (name ∷ names) none =
    let rest = (no_parts (again texts name) (repeated (texts ++ name.text ∷ []) names) none).1 in (
      All-from_contains (IsOther (λ n. Some n.text) name) names
          (λ other has t is_name is_other. not_before (texts ++ name.text ∷ []) names other rest
          (subst (Contains (texts ++ name.text ∷ [])) (same_Some name.text other.text (is_name ∙ sym is_other)) (Contains-push texts name.text)) has),
      names_apart (texts ++ name.text ∷ []) names rest,
    )

-- ---- what has a name or none

module _ {X Y : Type 0} (f : X → Option Y) where
  each_there : (P : Y → Type 0) (xs : List X) → All P (filter_map f xs) → All (λ x. (y : Y) → f x ≡ Some y → P y) xs
  each_there P [] all = All-nil (λ x. (y : Y) → f x ≡ Some y → P y)
  each_there P (x ∷ xs) all =
      let both = at (f x) (filter_map f xs) all in
      All-cons (λ x. (y : Y) → f x ≡ Some y → P y) x xs both.0 (each_there P xs both.1)
    where
      at : (o : Option Y) (ys : List Y) → All P (cons_option o ys) → ((y : Y) → o ≡ Some y → P y) × All P ys
      at None ys all = ((λ y is. absurd (cc is)), all)
      at (Some z) ys all = ((λ y is. subst P (same_Some z y is) (All-head P z ys all)), All-tail P z ys all)

  there_apart : (g : Y → List ℕ) (xs : List X) → AreApart (λ y. Some (g y)) (filter_map f xs) → AreApart (λ x. option_map g (f x)) xs
  there_apart g [] apart = tt
  there_apart g (x ∷ xs) apart =
      let both = at (f x) apart in
      (both.0, there_apart g xs both.1)
    where
      at : (o : Option Y) → AreApart (λ y. Some (g y)) (cons_option o (filter_map f xs)) → All (λ z. (t : List ℕ) → option_map g o ≡ Some t → option_map g (f z) ≡ Some t → ⊥) xs × AreApart (λ y. Some (g y)) (filter_map f xs)
      at None apart = (All-from_contains (λ z. (t : List ℕ) → option_map g None ≡ Some t → option_map g (f z) ≡ Some t → ⊥) xs (λ z has t none is. absurd (cc none)), apart)
      at (Some y) apart = (
        All-weaker (λ z. (w : Y) → f z ≡ Some w → IsOther (λ y. Some (g y)) y w) (λ z. (t : List ℕ) → option_map g (Some y) ≡ Some t → option_map g (f z) ≡ Some t → ⊥)
            (λ z others t is_y is_z. let w = mapped g (f z) t is_z in others w.0 w.1 t is_y (ap (λ k. Some k) w.2))
            xs (each_there (IsOther (λ y. Some (g y)) y) xs apart.0),
        apart.1,
      )

-- ---- items and crates

abbrev pub member_text : Member → Option (List ℕ)
member_text m = option_map (λ n. n.text) m.name

-- the name of an item
abbrev pub item_text : Item → Option (List ℕ)
item_text item = member_text (member_of item)

pub items_named_apart : (items : List Item) → double_in_items items ≡ [] → AreApart item_text items × All (λ item. (member_of item).inside ≡ []) items
unfolding double_among
items_named_apart items none =
    let members = map member_of items in
    let parts = no_parts (repeated [] (filter_map (λ m. m.name) members)) (flat_map (λ m. m.inside) members) none in (
      apart_of member_text member_of items (there_apart (λ (m : Member). m.name) (λ n. n.text) members (names_apart [] (filter_map (λ m. m.name) members) parts.0)),
      All-from_map (λ m. m.inside ≡ []) member_of items (none_each (λ m. m.inside) members parts.1),
    )

abbrev pub crate_text : Crate → Option (List ℕ)
crate_text krate = Some krate.name.text

pub crates_named_apart : (crates : List Crate) → doubled crates ≡ [] → AreApart crate_text crates × All (λ k. double_in_items k.items ≡ []) crates
unfolding doubled
crates_named_apart crates none =
    let parts = no_parts (repeated [] (map (λ k. k.name) crates)) (flat_map (λ k. double_in_items k.items) crates) none in (
      apart_of (λ n. Some n.text) (λ (k : Crate). k.name) crates (names_apart [] (map (λ k. k.name) crates) parts.0),
      none_each (λ k. double_in_items k.items) crates parts.1,
    )
