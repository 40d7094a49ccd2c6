-- What an item has from the crate in which it stands.
use Rattle.std.proofs.Common.{◌≡◌, ℕ, ◌+◌, suc, List, [], take, IsUtf8, Some, true, sym, ap, ◌∙◌, subst, arith}
use Rattle.std.proofs.lemmas.List.Elements.{All-contains}
use Rattle.std.specs.List.{All, Contains, slice_get}
use Rattle.mm_ast.specs.declared.items.Ast.{Ast}
use Rattle.mm_ast.specs.declared.items.Crate.{Crate}
use Rattle.mm_ast.specs.declared.items.ItemForm.TheVariants as forms
use Rattle.mm_ast.specs.declared.names.Name.{Name}
use Rattle.mm_definitions.specs.Placed.{placed_in}
use Rattle.mm_mentions.specs.ItemMentions.{form_mentions, mentions_in}
use Rattle.mm_rules.proofs.KeptLemmas.{kept_mentions}
use Rattle.mm_rules.specs.MentionRules.{broken}
use Rattle.mm_rules.specs.TreeFaults.{KeepsRules, start, behind, scope_of}
use Rattle.mm_terms.proofs.ListLemmas.{All-from_contains, All-flat_map, Contains-flat_map}
use Rattle.mm_written.specs.Items.{written_form}
use Rattle.mm_written.specs.Written.{is_written}
use Rattle.mm_load.specs.Leads.{Kept}
use Rattle.mm_load.specs.Located.{Located, items_of}
use Rattle.mm_load.specs.Modules.{modules_of, modules_in}
use Rattle.mm_load.proofs.PlacedIn.{none_is_module, among_mentions, each_written, prefix_in, crate_modules_utf8, crate_written}
use Rattle.mm_load.proofs.SliceLemmas.{Contains-slice_get}
use Rattle.mm_load.proofs.Standing.{placed_of, stands_in}

-- where it stands
pub record IsLocated (crates : List Crate) (l : Located) : Type 0 where
  pub crate : Crate
  pub there : slice_get crates l.krate ≡ Some crate
  pub scope : l.scope ≡ scope_of crates l.krate
  pub placed : Contains (placed_in crate) (record { prefix = l.prefix; form = l.form })

pub is_located : (crates : List Crate) (l : Located) → Contains (items_of crates) l → IsLocated crates l
unfolding items_of
is_located crates l has =
    let at = stands_in 0 start crates l has in
    let same : l.krate ≡ at.place = let is = at.number in omega (arith, is) in
    let next : suc at.place ≡ l.krate + 1 = omega (arith, same) in
    record { crate = at.crate; there = ap (slice_get crates) same ∙ at.there; scope = at.scope ∙ ap (λ n. (behind start (take n crates)).scope) next; placed = at.placed }

-- it is no module
pub no_module : (crates : List Crate) (l : Located) (name : Name) → Contains (items_of crates) l → l.form ≡ forms.Module name → ⊥
no_module crates l name has is = let at = is_located crates l has in none_is_module at.crate (placed_of l) at.placed name is

-- what it mentions breaks no rule
pub record IsKept (l : Located) : Type 0 where
  pub krate : List ℕ
  pub line : ℕ
  pub kept : Kept l.scope (form_mentions krate line l.form)

pub is_kept : (tree : Ast) (l : Located) → KeepsRules tree → Contains (items_of tree.crates) l → IsKept l
is_kept tree l kept has =
    let at = is_located tree.crates l has in
    let from = among_mentions at.crate (placed_of l) at.placed in
    let mentions = kept_mentions tree.crates kept l.krate at.crate at.there in
    record {
      krate = at.crate.name.text;
      line = from.0;
      kept = All-from_contains (λ m. broken l.scope m.what ≡ []) (form_mentions at.crate.name.text from.0 l.form)
          (λ m mentioned. subst (λ s. broken s m.what ≡ []) (sym at.scope)
          (All-contains (λ m. broken (scope_of tree.crates l.krate) m.what ≡ []) (mentions_in at.crate) m mentions (from.1 m mentioned)));
    }

pub is_written_form : (tree : Ast) (l : Located) → is_written tree ≡ true → Contains (items_of tree.crates) l → written_form l.form ≡ true
is_written_form tree l written has =
    let at = is_located tree.crates l has in
    each_written at.crate (crate_written tree at.crate written (Contains-slice_get tree.crates l.krate at.crate at.there)) (placed_of l) at.placed

-- its module is one of the text
pub in_modules : (crates : List Crate) (l : Located) → Contains (items_of crates) l → Contains (modules_of crates) l.prefix
in_modules crates l has =
    let at = is_located crates l has in
    Contains-flat_map modules_in crates at.crate l.prefix (Contains-slice_get crates l.krate at.crate at.there) (prefix_in at.crate (placed_of l) at.placed)

pub modules_utf8 : (tree : Ast) → is_written tree ≡ true → All IsUtf8 (modules_of tree.crates)
modules_utf8 tree written =
    All-flat_map IsUtf8 modules_in tree.crates
    (All-from_contains (λ krate. All IsUtf8 (modules_in krate)) tree.crates (λ krate has. crate_modules_utf8 krate (crate_written tree krate written has)))
