-- The reader of symbols reads symbols and nothing else.
use Rattle.std.proofs.Common.{◌≡◌, ℕ, List, [], ◌∷◌, ◌++◌, map, true, ◌&&◌, eqb, codes, Option, Some, None, refl, sym, ◌∙◌, ap, subst, append_assoc, append-nil, arith, inl, inr, ◌⊎◌}
use Rattle.std.specs.Prelude.{All}
use Rattle.std.specs.Str.{bytes_eq}
use Rattle.std.proofs.lemmas.Bool.{and_parts, or_cases, or_right}
use Rattle.std.proofs.lemmas.Option.{none-some}
use Rattle.std.proofs.lemmas.List.Elements.{All-nil, All-cons}
use Rattle.std.proofs.lemmas.Slice.Eq.{bytes_eq-Decides}
use Rattle.mm_names.specs.Names.{IsName}
use Rattle.mm_names.specs.Runs.{is_name}
use Rattle.mm_names.proofs.RunLemmas.{is_name-sound, is_name-complete}
use Rattle.mm_symbols.specs.declared.form.SymType.{SymType}
use Rattle.mm_symbols.specs.declared.form.SymItem.{SymItem}
use Rattle.mm_symbols.specs.declared.form.SymItem.TheVariants as items
use Rattle.mm_symbols.specs.declared.form.SymbolForm.{SymbolForm}
use Rattle.mm_symbols.specs.SymbolText.{seg_text, path_text, args_text, type_text, method_text, item_text, krate_text, symbol_text}
use Rattle.mm_symbols.specs.SymbolForms.{IsPath, IsDrop, IsWithin, IsMethod, IsItem, IsKrate, IsFormWithin}
use Rattle.mm_symbols.specs.Reading.{Read, ◌>>=◌, past, pair_in, if_in, segment_in, name_in, segments_in, is_path, args_in, named_in, within_in, is_drop_trait, names_method, MethodParts, method_of, method_in, item_in, only_if_done, krate_in, symbol_in}
use Rattle.mm_symbols.proofs.Readers.{Reads, bind_some, bind_at, some_same, reads_pair, reads_tested, reads_made, behind_sound, behind_complete, pick, past-sound}
use Rattle.mm_symbols.proofs.NameReads.{IsSegment, IsName-segment, reads_segment, reads_segments, reads_name, reads_path, is_path-sound, is_path-complete}
use Rattle.mm_symbols.proofs.TypeReads.{reads_type, reads_args, reads_named}

abbrev IsNamed : List (List ℕ) → List ℕ → Type 0
IsNamed tr name = (IsPath tr × IsName name) ⊎ IsDrop tr name

is_drop_trait-sound : (tr : List (List ℕ)) → is_drop_trait tr ≡ true → tr ≡ codes "Drop" ∷ []
is_drop_trait-sound [] h = cc
is_drop_trait-sound (name ∷ []) h = ap (λ n. n ∷ []) ((bytes_eq-Decides name (codes "Drop")).0 h)
is_drop_trait-sound (name ∷ next ∷ names) h = cc

names_method-sound : (tr : List (List ℕ)) (name : List ℕ) → names_method tr name ≡ true → IsNamed tr name
names_method-sound tr name h = elim (or_cases (is_drop_trait tr && bytes_eq name (codes "drop")) (is_path tr && is_name name) h) [
  | inl drop ↦ (let parts = and_parts (is_drop_trait tr) (bytes_eq name (codes "drop")) drop in inr (is_drop_trait-sound tr parts.0, (bytes_eq-Decides name (codes "drop")).0 parts.1))
  | inr named ↦ (let parts = and_parts (is_path tr) (is_name name) named in inl (is_path-sound tr parts.0, is_name-sound name parts.1))
]

drop_segment : IsSegment (codes "Drop")
drop_segment = record { short = omega arith; other = refl }

drop_method_segment : IsSegment (codes "drop")
drop_method_segment = record { short = omega arith; other = refl }

names_method-complete : (tr : List (List ℕ)) (name : List ℕ) → IsNamed tr name → (All IsSegment tr × IsSegment name) × (names_method tr name ≡ true)
names_method-complete tr name (inl named) =
    let path = is_path-complete tr named.0 in
    let test : is_path tr && is_name name ≡ true = rw (path.1, is_name-complete name named.1) refl in
    ((path.0, IsName-segment name named.1), or_right (is_drop_trait tr && bytes_eq name (codes "drop")) (is_path tr && is_name name) test)
names_method-complete tr name (inr drop) =
    let Fits : List (List ℕ) → List ℕ → Type 0 = λ t n. (All IsSegment t × IsSegment n) × (names_method t n ≡ true) in
    subst (λ t. Fits t name) (sym drop.0) (subst (Fits (codes "Drop" ∷ [])) (sym drop.1) ((All-cons IsSegment (codes "Drop") [] drop_segment (All-nil IsSegment), drop_method_segment), refl))

regroup : (t p a s o : List ℕ) → (((t ++ p) ++ a) ++ s) ++ o ≡ t ++ (p ++ (a ++ (s ++ o)))
regroup t p a s o = simp append_assoc

done_only : {A : Type 0} (bytes : List ℕ) (x a : A) → only_if_done x bytes ≡ Some a → (bytes ≡ []) × (x ≡ a)
done_only [] x a h = (refl, some_same x a h)
done_only (c ∷ cs) x a h = absurd (none-some a h)

krate_sound : (bytes : List ℕ) (krate : Option (List ℕ)) → krate_in bytes ≡ Some krate → IsKrate krate × (bytes ≡ krate_text krate)
unfolding krate_in
krate_sound [] krate h = subst (λ k. IsKrate k × ([] ≡ krate_text k)) (some_same None krate h) (tt, refl)
krate_sound (c ∷ bytes) krate h =
    let b = bind_some (past 88 (c ∷ bytes) >>= name_in) (λ x. only_if_done (Some x.0) x.1) krate h in
    let x = b.0 in
    let d = bind_some (past 88 (c ∷ bytes)) name_in x b.1 in
    let s = reads_name.sound d.0 x.0 x.1 d.2 in
    let done = done_only x.1 (Some x.0) krate b.2 in
    let whole : c ∷ bytes ≡ 88 ∷ seg_text x.0 = past-sound 88 (c ∷ bytes) d.0 d.1 ∙ ap (λ l. 88 ∷ l) (s.1 ∙ ap (λ l. seg_text x.0 ++ l) done.0 ∙ append-nil (seg_text x.0)) in
    subst (λ k. IsKrate k × (c ∷ bytes ≡ krate_text k)) done.1 (s.0, whole)

krate_complete : (krate : Option (List ℕ)) → IsKrate krate → krate_in (krate_text krate) ≡ Some krate
unfolding krate_in
krate_complete None is = refl
krate_complete (Some name) is =
    bind_at (name_in (seg_text name)) (λ x. only_if_done (Some x.0) x.1) (name, []) (Some (Some name)) (ap name_in (sym (append-nil (seg_text name))) ∙ reads_name.complete name [] is) refl

module _ (levels : ℕ) where
  inner : List ℕ → Read SymType
  inner = within_in levels

  reads_types : Reads (All (IsWithin levels)) (All (IsWithin levels)) (λ ts. args_text (map type_text ts)) (args_in (within_in levels))
  reads_types = reads_args (IsWithin levels) (within_in levels) (reads_type levels)

  reads_instance : Reads (λ x. IsPath x.0 × All (IsWithin levels) x.1) (λ x. IsPath x.0 × All (IsWithin levels) x.1) (λ x. path_text x.0 ++ args_text (map type_text x.1)) (named_in (within_in levels))
  reads_instance = reads_named (IsWithin levels) (within_in levels) (reads_type levels)

  IsParts : MethodParts → Type 0
  IsParts x = IsMethod levels (method_of x)

  parts_text : MethodParts → List ℕ
  parts_text x = type_text x.0 ++ (path_text x.1.0 ++ (args_text (map type_text x.1.1.0) ++ (seg_text x.1.1.1.0 ++ args_text (map type_text x.1.1.1.1))))

  reads_parts : Reads IsParts IsParts parts_text (if_in (λ x. names_method x.1.0 x.1.1.1.0) (pair_in (within_in levels) (pair_in segments_in (pair_in (args_in (within_in levels)) (pair_in segment_in (args_in (within_in levels)))))))
  unfolding IsParts parts_text
  reads_parts =
      reads_tested IsParts (λ x. names_method x.1.0 x.1.1.1.0)
      (λ x are named. record { target = are.0; named = names_method-sound x.1.0 x.1.1.1.0 named; args = are.1.1.0; own = are.1.1.1.1 })
      (λ x is. let named = names_method-complete x.1.0 x.1.1.1.0 is.named in ((is.target, (named.0.0, (is.args, (named.0.1, is.own)))), named.1))
      (reads_pair (reads_type levels) (reads_pair reads_segments (reads_pair reads_types (reads_pair reads_segment reads_types))))

  reads_method : Reads (IsMethod levels) (IsMethod levels) method_text (method_in (within_in levels))
  unfolding method_in IsParts parts_text
  reads_method =
      reads_made (IsMethod levels) (IsMethod levels) method_text method_of (λ x. regroup (type_text x.0) (path_text x.1.0) (args_text (map type_text x.1.1.0)) (seg_text x.1.1.1.0) (args_text (map type_text x.1.1.1.1))) (λ x is. is)
      (λ m is. ((m.target, (m.tr, (m.args, (m.name, m.own)))), is, refl))
      reads_parts

  item_sound : (bytes : List ℕ) (x : SymItem) (rest : List ℕ) → item_in (within_in levels) bytes ≡ Some (x, rest) → IsItem levels x × (bytes ≡ item_text x ++ rest)
  unfolding item_in
  item_sound [] x rest h = cc
  item_sound (c ∷ bytes) x rest h =
      let Told : Type 0 = IsItem levels x × (c ∷ bytes ≡ item_text x ++ rest) in
      pick Told (eqb c 70) _ _ _ (behind_sound (IsItem levels) item_text (λ y. items.Fn y.0 y.1) 70 c (λ y. refl) (λ y is. is) reads_instance bytes x rest) (λ _.
      pick Told (eqb c 75) _ _ _ (behind_sound (IsItem levels) item_text (λ y. items.Closure y.0 y.1) 75 c (λ y. refl) (λ y is. is) reads_instance bytes x rest) (λ _.
      pick Told (eqb c 77) _ _ _ (behind_sound (IsItem levels) item_text items.Method 77 c (λ m. refl) (λ m is. is) reads_method bytes x rest) (λ _.
      pick Told (eqb c 76) _ _ _ (behind_sound (IsItem levels) item_text items.Glue 76 c (λ t. refl) (λ t is. is) (reads_type levels) bytes x rest) (λ _.
      pick Told (eqb c 72) _ _ _ (behind_sound (IsItem levels) item_text items.Shim 72 c (λ t. refl) (λ t is. is) (reads_type levels) bytes x rest) (λ _.
      pick Told (eqb c 83) _ _ _ (behind_sound (IsItem levels) item_text items.Static 83 c (λ names. refl) (λ names is. is) reads_path bytes x rest) (λ _ g. absurd (none-some (x, rest) g)))))))
      h

  item_complete : (x : SymItem) (rest : List ℕ) → IsItem levels x → item_in (within_in levels) (item_text x ++ rest) ≡ Some (x, rest)
  unfolding item_in
  item_complete (items.Fn names types) rest is = behind_complete (λ y. items.Fn y.0 y.1) reads_instance (names, types) rest is
  item_complete (items.Closure names types) rest is = behind_complete (λ y. items.Closure y.0 y.1) reads_instance (names, types) rest is
  item_complete (items.Method m) rest is = behind_complete items.Method reads_method m rest is
  item_complete (items.Glue type') rest is = behind_complete items.Glue (reads_type levels) type' rest is
  item_complete (items.Shim type') rest is = behind_complete items.Shim (reads_type levels) type' rest is
  item_complete (items.Static names) rest is = behind_complete items.Static reads_path names rest is

  after_item : SymItem × List ℕ → Option SymbolForm
  after_item item = krate_in item.1 >>= λ krate. Some (record { item = item.0; krate = krate })

  after_mark : List ℕ → Option SymbolForm
  after_mark rest = item_in (within_in levels) rest >>= after_item

  pub symbol_in-sound : (bytes : List ℕ) (form : SymbolForm) → symbol_in levels bytes ≡ Some form → IsFormWithin levels form × (bytes ≡ symbol_text form)
  unfolding symbol_in symbol_text after_item after_mark
  symbol_in-sound bytes form read =
      let a = bind_some (past 95 bytes) (λ m. past 77 m >>= after_mark) form read in
      let b = bind_some (past 77 a.0) after_mark form a.2 in
      let c = bind_some (item_in (within_in levels) b.0) after_item form b.2 in
      let item = c.0 in
      let d = bind_some (krate_in item.1) (λ krate. Some (record { item = item.0; krate = krate })) form c.2 in
      let s = item_sound b.0 item.0 item.1 c.1 in
      let k = krate_sound item.1 d.0 d.1 in
      let whole : bytes ≡ 95 ∷ 77 ∷ (item_text item.0 ++ krate_text d.0) =
      past-sound 95 bytes a.0 a.1 ∙ ap (λ l. 95 ∷ l) (past-sound 77 a.0 b.0 b.1) ∙ ap (λ l. 95 ∷ 77 ∷ l) (s.1 ∙ ap (λ l. item_text item.0 ++ l) k.1) in
      subst (λ (f : SymbolForm). IsFormWithin levels f × (bytes ≡ 95 ∷ 77 ∷ (item_text f.item ++ krate_text f.krate))) (some_same (record { item = item.0; krate = d.0 }) form d.2) (record { item = s.0; krate = k.0 }, whole)

  pub symbol_in-complete : (form : SymbolForm) → IsFormWithin levels form → symbol_in levels (symbol_text form) ≡ Some form
  unfolding symbol_in symbol_text after_item
  symbol_in-complete form is =
      bind_at (item_in (within_in levels) (item_text form.item ++ krate_text form.krate)) after_item (form.item, krate_text form.krate) (Some form) (item_complete form.item (krate_text form.krate) is.item)
      (bind_at (krate_in (krate_text form.krate)) (λ krate. Some (record { item = form.item; krate = krate })) form.krate (Some form) (krate_complete form.krate is.krate) refl)
