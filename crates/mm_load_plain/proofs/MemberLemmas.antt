-- A loop over the items of one module that asks whether a name stands twice.
use Rattle.std.proofs.Common.{◌≡◌, ℕ, ◌+◌, ◌<◌, ◌≤◌, List, [], ◌∷◌, ◌++◌, length, map, take, drop, get_or, Ok, Err, sym, ◌∙◌, ap, subst, arith}
use Rattle.std.proofs.lemmas.List.{get_or-map, length-map, map_more}
use Rattle.mm_ast.specs.declared.items.Item.{Item}
use Rattle.mm_load_plain.specs.declared.load_error.LoadError as errors
use Rattle.mm_load_plain.specs.declared.rule.Rule.TheVariants.{DoubleName}
use Rattle.mm_load_plain.specs.Asking.{Reports}
use Rattle.mm_load_plain.specs.Rules.{along, again, Member, member_of, double_among, double_in_items}
use Rattle.mm_load_plain.proofs.AskingLemmas.{along_fault, along_kept, along_all}
use Rattle.mm_load_plain.specs.WrittenItem.{name_of}
use Rattle.mm_load_plain.proofs.ItemLemmas.{reports_of_member, member_of-name}

-- what is asked of a member, where those before it stand in its module
abbrev pub doubled : List Member → Member → List ℕ
doubled before m = again (map (λ other. other.name.text) before) m.name.text m.name.line ++ m.inside

module _ (items : List Item) (i : ℕ) (item : Item) (within : i < length items) (at : item ≡ get_or items i item) where
  within_members : i < length (map member_of items)
  within_members = omega (arith, within, length-map items member_of)

  at_member : member_of item ≡ get_or (map member_of items) i (member_of item)
  at_member = ap member_of at ∙ sym (get_or-map member_of items i item (member_of item) within)

  -- the names that were seen, with that of the next item
  pub names_more : (old new : List (List ℕ)) → old ≡ map (λ m. m.name.text) (take i (map member_of items)) → new ≡ old ++ (name_of item).text ∷ [] → new ≡ map (λ m. m.name.text) (take (i + 1) (map member_of items))
  names_more old new seen more =
      more
      ∙ ap (λ names. names ++ (name_of item).text ∷ []) seen
      ∙ ap (λ name. map (λ m. m.name.text) (take i (map member_of items)) ++ name.text ∷ []) (sym (member_of-name item))
      ∙ ap (λ m. map (λ m. m.name.text) (take i (map member_of items)) ++ m.name.text ∷ []) at_member
      ∙ sym (map_more (λ m. m.name.text) (map member_of items) i (member_of item) within_members)

  pub members_kept : (names : List (List ℕ)) → names ≡ map (λ m. m.name.text) (take i (map member_of items)) → along doubled [] (map member_of items) ≡ along doubled (take i (map member_of items)) (drop i (map member_of items)) → Reports DoubleName (again names (name_of item).text (name_of item).line ++ (member_of item).inside) (Ok tt) → along doubled [] (map member_of items) ≡ along doubled (take (i + 1) (map member_of items)) (drop (i + 1) (map member_of items))
  members_kept names seen so_far t =
      along_kept doubled (map member_of items) i DoubleName (member_of item) tt so_far within_members at_member
      (subst (λ ns. Reports DoubleName (again ns (member_of item).name.text (member_of item).name.line ++ (member_of item).inside) (Ok tt)) seen (reports_of_member DoubleName names item (Ok tt) t))

  pub members_fault : (names : List (List ℕ)) (e : errors.LoadError) → names ≡ map (λ m. m.name.text) (take i (map member_of items)) → along doubled [] (map member_of items) ≡ along doubled (take i (map member_of items)) (drop i (map member_of items)) → Reports DoubleName (again names (name_of item).text (name_of item).line ++ (member_of item).inside) (Err e) → Reports DoubleName (double_in_items items) (Err e)
  unfolding double_among
  members_fault names e seen so_far t =
      along_fault doubled (map member_of items) i DoubleName (member_of item) e so_far within_members at_member
      (subst (λ ns. Reports DoubleName (again ns (member_of item).name.text (member_of item).name.line ++ (member_of item).inside) (Err e)) seen (reports_of_member DoubleName names item (Err e) t))

pub members_all : (items : List Item) (i : ℕ) → along doubled [] (map member_of items) ≡ along doubled (take i (map member_of items)) (drop i (map member_of items)) → length items ≤ i → Reports DoubleName (double_in_items items) (Ok tt)
unfolding double_among
members_all items i so_far l = along_all doubled (map member_of items) i DoubleName so_far (omega (arith, l, length-map items member_of))
