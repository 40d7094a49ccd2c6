-- No two items of a text that keeps the rules have one path.
use Rattle.std.proofs.Common.{◌≡◌, ℕ, ◌+◌, List, [], ◌∷◌, ◌++◌, map, flat_map, Some, true, refl, sym, ap, ◌∙◌, subst}
use Rattle.std.specs.Prelude.{Contains}
use Rattle.std.specs.Option.{option_map}
use Rattle.std.proofs.lemmas.List.{map-append}
use Rattle.mm_ast.specs.declared.items.Ast.{Ast}
use Rattle.mm_ast.specs.declared.items.Crate.{Crate}
use Rattle.mm_ast.specs.declared.names.Name.{Name}
use Rattle.mm_definitions.specs.Paths.{path_in}
use Rattle.mm_definitions.specs.Placed.{Placed, size, placed_in}
use Rattle.mm_resolve.specs.Doubles.{doubled, form_name}
use Rattle.mm_resolve.specs.Scopes.{Scope}
use Rattle.mm_rules.specs.TreeFaults.{Reached, start, entered}
use Rattle.mm_written.specs.Written.{is_written}
use Rattle.mm_load.specs.Located.{Located, located_from, located_in, items_of}
use Rattle.mm_load.proofs.Apart.{AreApart, one_of, apart_of}
use Rattle.mm_load.proofs.PathsApart.{placed_path, paths_apart}

-- an item without its crate and its number
abbrev placed_of : Located → Placed
placed_of l = record { prefix = l.prefix; form = l.form }

all_from : (c : ℕ) (scope : Scope) (n : ℕ) (ps : List Placed) → map placed_of (located_from c scope n ps) ≡ ps
all_from c scope n [] = refl
all_from c scope n (p ∷ ps) = ap (λ qs. p ∷ qs) (all_from c scope (n + size p.form) ps)

all_in : (c : ℕ) (reached : Reached) (crates : List Crate) → map placed_of (located_in c reached crates) ≡ flat_map placed_in crates
all_in c reached [] = refl
all_in c reached (k ∷ ks) =
    let here = located_from c (entered reached k).scope reached.count (placed_in k) in
    let others = located_in (c + 1) (entered reached k) ks in
    map-append placed_of here others
    ∙ (λ i. all_from c (entered reached k).scope reached.count (placed_in k) i ++ all_in (c + 1) (entered reached k) ks i)

all_items : (crates : List Crate) → map placed_of (items_of crates) ≡ flat_map placed_in crates
unfolding items_of
all_items crates = all_in 0 start crates

pub one_item : (tree : Ast) → is_written tree ≡ true → doubled tree.crates ≡ [] → (l m : Located) (a b : Name) → Contains (items_of tree.crates) l → Contains (items_of tree.crates) m
    → form_name l.form ≡ Some a → form_name m.form ≡ Some b → path_in l.prefix a.text ≡ path_in m.prefix b.text → l ≡ m
one_item tree written apart l m a b has_l has_m named_a named_b same =
    one_of (λ l. placed_path (placed_of l)) (items_of tree.crates) l m (path_in l.prefix a.text)
    (apart_of placed_path placed_of (items_of tree.crates) (subst (AreApart placed_path) (sym (all_items tree.crates)) (paths_apart tree written apart)))
    has_l has_m (path l a named_a) (path m b named_b ∙ ap (λ p. Some p) (sym same))
  where
    path : (l : Located) (name : Name) → form_name l.form ≡ Some name → placed_path (placed_of l) ≡ Some (path_in l.prefix name.text)
    path l name is = ap (option_map (λ name. path_in l.prefix name.text)) is
