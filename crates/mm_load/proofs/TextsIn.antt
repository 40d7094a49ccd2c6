-- Crates, modules and paths are texts, and each definition stands in a crate and a module of the program.
use Rattle.std.proofs.Common.{suc, ◌+◌, ◌&&◌, ◌⊎◌, inl, inr, List, [], ◌∷◌, cond, Bool, false, Option, None, IsUtf8, unwrap_or, refl, sym, ap, subst, ◌∙◌, arith}
use Rattle.std.specs.Prelude.{◌≡◌, ℕ, ◌<◌, All, Contains, Some, length, true, slice_get}
use Rattle.std.specs.List.{list_all}
use Rattle.std.specs.Option.{option_map, option_map_or}
use Rattle.std.specs.Str.{bytes_eq}
use Rattle.std.proofs.lemmas.Bool.{false≢true, ltb-true}
use Rattle.std.proofs.lemmas.List.{length-map}
use Rattle.std.proofs.lemmas.List.Elements.{All-contains, All-map}
use Rattle.std.proofs.lemmas.List.Sums.{AllPass-from_list_all}
use Rattle.std.proofs.lemmas.Option.{none-some, same_Some, slice_get_within}
use Rattle.mm_ast.specs.declared.items.Ast.{Ast}
use Rattle.mm_ast.specs.declared.items.Crate.{Crate}
use Rattle.mm_ast.specs.declared.items.ImplForm.TheVariants as impls
use Rattle.mm_ast.specs.declared.items.ImplMethod.{ImplMethod}
use Rattle.mm_ast.specs.declared.items.ItemForm.TheVariants as forms
use Rattle.mm_ast.specs.declared.items.TraitImpl.{TraitImpl}
use Rattle.mm_ast.specs.declared.names.Name.{Name}
use Rattle.mm_definitions.specs.Paths.{path_in, path_named}
use Rattle.mm_definitions.specs.declared.kinds.Kind.TheVariants as kinds
use Rattle.mm_definitions.specs.declared.kinds.Wanted.TheVariants as wants
use Rattle.mm_lower.specs.Items.{given_part}
use Rattle.mm_lower.specs.Params.{index_of, number_of, numbered}
use Rattle.mm_mentions.specs.ItemMentions.{form_mentions}
use Rattle.mm_program.specs.declared.kind.DefKind.TheVariants as kind
use Rattle.mm_program.specs.declared.parts.DefPart.{DefPart}
use Rattle.mm_program.specs.declared.parts.Parts.{Parts}
use Rattle.mm_program.specs.Valid.{IsShort, IsText}
use Rattle.mm_program.specs.Views.{IsOfKind, def_of, path_of}
use Rattle.mm_resolve.specs.Scopes.{leads_to}
use Rattle.mm_rules.specs.TreeFaults.{KeepsRules}
use Rattle.mm_terms.proofs.ListLemmas.{and_left, and_right, All-both, All-from_contains, All-slice_get, bytes_same, Contains-cons_cases, Contains-flat_map, Contains-here, Contains-nil}
use Rattle.mm_terms.specs.declared.ids.DefId.{DefId}
use Rattle.mm_written.specs.Lists.{few}
use Rattle.mm_written.specs.Written.{is_written}
use Rattle.mm_load.specs.Counted.{is_counted}
use Rattle.mm_load.specs.Drops.{with_drop}
use Rattle.mm_load.specs.Leads.{IsAs, Kept}
use Rattle.mm_load.specs.Located.{Located, items_of, site}
use Rattle.mm_load.specs.Meaning.{parts_at, all_parts, program_of}
use Rattle.mm_load.specs.Modules as of_crate
use Rattle.mm_load.specs.Modules.{items_modules, modules_of}
use Rattle.mm_load.proofs.GivesIn.{method_asked}
use Rattle.mm_load.proofs.InProgram.{defined}
use Rattle.mm_load.proofs.LocatedIn.{is_located, is_kept, is_written_form, in_modules, modules_utf8}
use Rattle.mm_load.proofs.Numbered.{part_at, dropped_at}
use Rattle.mm_load.proofs.PartsAt.{StandsAt, parts_are}
use Rattle.mm_load.proofs.TextLeads.{text_leads}

pub record HasTexts (p : Parts) (part : DefPart) : Type 0 where
  pub in_crate : part.krate.0 < length p.crates
  pub in_module : part.module < length p.modules
  pub path : IsText part.path

-- ---- lists

few_short : {A : Type 0} (xs : List A) → few xs ≡ true → IsShort xs
unfolding few
few_short xs is = ltb-true (length xs) 4294967296 is

-- what is in a list has a place in it
place_of : (names : List (List ℕ)) (name : List ℕ) → Contains names name → (k : ℕ) × (index_of names name ≡ Some k) × (k < length names)
place_of [] name has = absurd (Contains-nil name has)
place_of (n ∷ ns) name has = at (bytes_eq name n) refl (Contains-cons_cases n ns name has) (λ rest. place_of ns name rest)
  where
    at : (b : Bool) → bytes_eq name n ≡ b → (n ≡ name) ⊎ Contains ns name → (Contains ns name → (k : ℕ) × (index_of ns name ≡ Some k) × (k < length ns))
        → (k : ℕ) × (cond b (Some 0) (option_map suc (index_of ns name)) ≡ Some k) × (k < suc (length ns))
    at true here either later = (0, refl, omega arith)
    at false here (inl same) later = absurd (false≢true (sym here ∙ ap (bytes_eq name) same ∙ bytes_same name))
    at false here (inr rest) later = let place = later rest in let within = place.2 in (suc place.0, ap (option_map suc) place.1, omega (arith, within))

number_within : (names : List (List ℕ)) (name : List ℕ) → Contains names name → number_of (numbered names) name < length names
number_within names name has = let place = place_of names name has in subst (λ o. unwrap_or o 0 < length names) (sym place.1) place.2

-- the first module of a crate is the crate itself
crate_module : (crates : List Crate) (k : Crate) → Contains crates k → Contains (modules_of crates) k.name.text
unfolding of_crate.modules_in
crate_module crates k has = Contains-flat_map of_crate.modules_in crates k k.name.text has (Contains-here k.name.text (items_modules k.name.text k.items))

-- ---- paths

module _ (tree : Ast) (written : is_written tree ≡ true) (kept : KeepsRules tree) where
  abbrev p : Parts
  p = program_of tree.crates

  module _ (l : Located) (has : Contains (items_of tree.crates) l) where
    prefix_utf8 : IsUtf8 l.prefix
    prefix_utf8 = All-contains IsUtf8 (modules_of tree.crates) l.prefix (modules_utf8 tree written) (in_modules tree.crates l has)

    -- the path of a method of a trait
    method_utf8 : (i : ℕ) (part : DefPart) → slice_get (parts_at (modules_of tree.crates) l) i ≡ Some part → part.kind ≡ kind.Method → IsUtf8 part.path
    unfolding given_part
    method_utf8 i part at =
        All-slice_get (λ q. q.kind ≡ kind.Method → IsUtf8 q.path) (parts_at (modules_of tree.crates) l) i part
        (parts_are (leads_to l.scope) (site (modules_of tree.crates) l) prefix_utf8 (λ q. q.kind ≡ kind.Method → IsUtf8 q.path) (λ q stands utf8 is. utf8) l.form (is_written_form tree l written has)
        (λ type_params i is m among of_kind. absurd (cc of_kind)))
        at

  -- of each method of a trait in the program
  method_path : (d : DefId) → IsOfKind p d kind.Method → IsUtf8 (path_of p d)
  unfolding with_drop
  method_path d of_kind = from (def_of p d) refl
    where
      from : (o : Option DefPart) → def_of p d ≡ o → IsUtf8 (path_of p d)
      from None at = absurd (none-some kind.Method (sym (ap (λ o. option_map_or (λ q. Some q.kind) o None) at) ∙ of_kind))
      from (Some part) at =
          let found = defined tree.crates d part at in
          let from = found.origin in
          let is_method : part.kind ≡ kind.Method = same_Some part.kind kind.Method (sym (ap (λ o. option_map_or (λ q. Some q.kind) o None) at) ∙ of_kind) in
          let utf8 = method_utf8 from.item from.among from.place found.made from.there (sym (ap (λ q. q.kind) found.is) ∙ is_method) in
          subst IsUtf8 (sym (ap (λ o. option_map_or (λ q. q.path) o []) at ∙ ap (λ q. q.path) found.is)) utf8

  module _ (l : Located) (has : Contains (items_of tree.crates) l) where
    -- and so the path of what an impl gives, which is that of the trait's method
    given_utf8 : (type_params : List Name) (i : TraitImpl) → l.form ≡ forms.Impl (record { type_params = type_params; form = impls.Trait i }) → (m : ImplMethod) → Contains i.methods m
        → IsUtf8 (path_in (path_named i.of.path) m.function.name.text)
    given_utf8 type_params i is m among =
        let asks = is_kept tree l kept has in
        let path = path_in (path_named i.of.path) m.function.name.text in
        let of = method_asked l.scope asks.krate asks.line type_params i (subst (λ form. Kept l.scope (form_mentions asks.krate asks.line form)) is asks.kept) m among in
        let leads = text_leads tree written kept l has in
        let there = of.leads in
        let named : IsAs p of.to kinds.Method = subst (IsAs p of.to) (leads.wanted (wants.One kinds.Method) path of.to there) (leads.named (wants.One kinds.Method) path of.to there) in
        subst IsUtf8 (sym named.2 ∙ leads.spelled (wants.One kinds.Method) path of.to there) (method_path of.to.def named.0)

    -- a definition stands in the crate and the module of its item, and its path is UTF-8
    stands_utf8 : (i : ℕ) (part : DefPart) → slice_get (parts_at (modules_of tree.crates) l) i ≡ Some part → StandsAt (leads_to l.scope) (site (modules_of tree.crates) l) part × IsUtf8 part.path
    unfolding given_part
    stands_utf8 i part at =
        let here = site (modules_of tree.crates) l in
        let Good : DefPart → Type 0 = λ q. StandsAt (leads_to l.scope) here q × IsUtf8 q.path in
        All-slice_get Good (parts_at (modules_of tree.crates) l) i part
        (parts_are (leads_to l.scope) here (prefix_utf8 l has) Good (λ q stands utf8. (stands, utf8)) l.form (is_written_form tree l written has)
        (λ type_params i is m among. (record { krate = refl; in_module = refl }, given_utf8 type_params i is m among)))
        at

-- ---- texts

module _ (tree : Ast) (written : is_written tree ≡ true) (kept : KeepsRules tree) (counted : is_counted (program_of tree.crates) ≡ true) where
  few_bytes : All (λ m. few m ≡ true) (modules_of tree.crates)
  unfolding is_counted
  few_bytes =
      let p = program_of tree.crates in
      AllPass-from_list_all few p.modules (and_right (few p.defs && few p.modules) (list_all few p.modules) (and_left (few p.defs && few p.modules && list_all few p.modules) (list_all (λ part. few part.path) p.defs) counted))

  each_module : All IsText (modules_of tree.crates)
  each_module =
      All-both IsUtf8 (λ m. few m ≡ true) IsText (λ m utf8 short. record { utf8 = utf8; short = few_short m short }) (modules_of tree.crates) (modules_utf8 tree written) few_bytes

  pub crates_in : All IsText (program_of tree.crates).crates
  crates_in =
      All-map IsText (λ k. k.name.text) tree.crates
      (All-from_contains (λ k. IsText k.name.text) tree.crates (λ k has. All-contains IsText (modules_of tree.crates) k.name.text each_module (crate_module tree.crates k has)))

  pub modules_in : All IsText (program_of tree.crates).modules
  modules_in = each_module

  -- all paths are counted
  short_path : (l : Located) → Contains (items_of tree.crates) l → (i : ℕ) (part : DefPart) → slice_get (parts_at (modules_of tree.crates) l) i ≡ Some part → IsShort part.path
  unfolding is_counted with_drop
  short_path l has i part at =
      let p = program_of tree.crates in
      let parts = all_parts tree.crates in
      let n = l.number + i in
      let there : slice_get p.defs n ≡ Some (with_drop parts (n, part)) = dropped_at parts n ∙ ap (option_map (λ q. with_drop parts (n, q))) (part_at tree.crates l i part has at) in
      let all = AllPass-from_list_all (λ q. few q.path) p.defs (and_right (few p.defs && few p.modules && list_all few p.modules) (list_all (λ q. few q.path) p.defs) counted) in
      few_short part.path (All-slice_get (λ q. few q.path ≡ true) p.defs n (with_drop parts (n, part)) all there)

  pub texts_in : (l : Located) → Contains (items_of tree.crates) l → (i : ℕ) (part : DefPart) → slice_get (parts_at (modules_of tree.crates) l) i ≡ Some part → HasTexts (program_of tree.crates) part
  texts_in l has i part at =
      let stands = stands_utf8 tree written kept l has i part at in
      let where_is = is_located tree.crates l has in
      let within = slice_get_within tree.crates l.krate where_is.crate where_is.there in
      let same = length-map tree.crates (λ k. k.name.text) in
      let in_crate : l.krate < length (program_of tree.crates).crates = omega (arith, within, same) in
      record {
        in_crate = subst (λ k. k < length (program_of tree.crates).crates) (sym stands.0.krate) in_crate;
        in_module = subst (λ k. k < length (modules_of tree.crates)) (sym stands.0.in_module) (number_within (modules_of tree.crates) l.prefix (in_modules tree.crates l has));
        path = record { utf8 = stands.1; short = short_path l has i part at };
      }
