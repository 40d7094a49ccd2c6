-- What is said of an item, part by part.
use Rattle.std.proofs.Common.{◌≡◌, ℕ, List, ◌++◌, map, Result, sym, ◌∙◌, ap, subst}
use Rattle.std.specs.List.{flat_map}
use Rattle.std.proofs.lemmas.List.Folds.{flat_map-map}
use Rattle.mm_ast.specs.declared.items.Item.{Item}
use Rattle.mm_ast.specs.declared.items.Item.TheViews.{out-Item}
use Rattle.mm_load_plain.specs.declared.load_error.LoadError.{LoadError}
use Rattle.mm_load_plain.specs.declared.rule.Rule.{Rule}
use Rattle.mm_load_plain.specs.Asking.{Reports}
use Rattle.mm_load_plain.specs.Rules.{again, repeated_in, member_of, double_among}
use Rattle.mm_load_plain.specs.WrittenItem.{Defined, form_name, path_in, defined_by, functions_in, name_of}
use Rattle.mm_definitions.specs.Trees.{items_in}
use Rattle.mm_definitions.proofs.TreeLemmas.{item_fold-parts}

pub functions_in-parts : (item : Item) (prefix : List ℕ) → functions_in item prefix ≡ defined_by (path_in prefix (name_of item).text) (out-Item item).line (out-Item item).form ++ flat_map (λ inner. functions_in inner (path_in prefix (name_of item).text)) (items_in item)
unfolding functions_in
functions_in-parts item prefix =
    let path = path_in prefix (name_of item).text in
    ap {A = List ℕ → List Defined} (λ functions. functions prefix) (item_fold-parts (λ at form inside prefix. defined_by (path_in prefix (form_name form).text) at form ++ flat_map (λ functions. functions (path_in prefix (form_name form).text)) inside) item)
    ∙ ap (λ l. defined_by path (out-Item item).line (out-Item item).form ++ l) (flat_map-map (λ functions. functions path) functions_in (items_in item))

pub member_of-parts : (item : Item) → member_of item ≡ record { name = name_of item; inside = repeated_in (out-Item item).form ++ double_among (map member_of (items_in item)) }
unfolding member_of
member_of-parts item = item_fold-parts (λ at form members. record { name = form_name form; inside = repeated_in form ++ double_among members }) item

pub member_of-name : (item : Item) → (member_of item).name ≡ name_of item
member_of-name item = ap (λ m. m.name) (member_of-parts item)

-- what is reported of the name of an item and of what is inside it is reported of it as a member of its module
pub reports_of_member : (rule : Rule) (names : List (List ℕ)) (item : Item) (r : Result (Unit {0}) LoadError) → Reports rule (again names (name_of item).text (name_of item).line ++ (member_of item).inside) r → Reports rule (again names (member_of item).name.text (member_of item).name.line ++ (member_of item).inside) r
reports_of_member rule names item r t = subst (λ name. Reports rule (again names name.text name.line ++ (member_of item).inside) r) (sym (member_of-name item)) t

-- what is reported of the parts of an item is reported of what is inside it
pub reports_inside : (rule : Rule) (item : Item) (r : Result (Unit {0}) LoadError) → Reports rule (repeated_in (out-Item item).form ++ double_among (map member_of (items_in item))) r → Reports rule (member_of item).inside r
reports_inside rule item r t = subst (λ ps. Reports rule ps r) (sym (ap (λ m. m.inside) (member_of-parts item))) t
