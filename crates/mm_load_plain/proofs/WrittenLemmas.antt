-- What is asked of a written type, part by part.
use Rattle.std.proofs.Common.{◌≡◌, ℕ, zero, suc, ◌+◌, ◌<◌, ◌≤◌, length, sum, take, get_or, arith, List, [], ◌∷◌, ◌++◌, map, Result, sym, ◌∙◌, ap, subst}
use Rattle.std.proofs.lemmas.List.Sums.{sum_by-cons}
use Rattle.std.specs.List.{flat_map}
use Rattle.std.proofs.lemmas.List.Folds.{flat_map-map}
use Rattle.mm_terms.specs.Tree.{node}
use Rattle.mm_load_plain.specs.Meaning.{head_in, type_of}
use Rattle.mm_load_plain.specs.declared.rule.Rule.{Rule}
use Rattle.mm_load_plain.specs.declared.load_error.LoadError.{LoadError}
use Rattle.mm_load_plain.specs.Asking.{Reports}
use Rattle.mm_ast.specs.declared.types.Type as written
use Rattle.mm_load_plain.specs.Names.{Names}
use Rattle.mm_load_plain.specs.Rules.{unknown_head, unknown_in_type, type_length}
use Rattle.mm_definitions.specs.Trees.{line_of, head_of, children_of}
use Rattle.mm_definitions.proofs.TreeLemmas.{type_fold-parts}

pub unknown_in_type-parts : (scope : Names) (t : written.Type) → unknown_in_type scope t ≡ unknown_head scope (line_of t) (head_of t) ++ flat_map (unknown_in_type scope) (children_of t)
unfolding unknown_in_type
unknown_in_type-parts scope t =
    type_fold-parts (λ at head below. unknown_head scope at head ++ flat_map (λ lines. lines) below) t
    ∙ ap (λ ps. unknown_head scope (line_of t) (head_of t) ++ ps) (flat_map-map (λ lines. lines) (unknown_in_type scope) (children_of t))

-- what is reported of the head and the types below it is reported of the type
pub reports_in_type : (rule : Rule) (scope : Names) (t : written.Type) (r : Result (Unit {0}) LoadError) → Reports rule (unknown_head scope (line_of t) (head_of t) ++ flat_map (unknown_in_type scope) (children_of t)) r → Reports rule (unknown_in_type scope t) r
reports_in_type rule scope t r reports = subst (λ ps. Reports rule ps r) (sym (unknown_in_type-parts scope t)) reports

-- the head counts one, and each type below it its own length
pub type_length-parts : (t : written.Type) → type_length t ≡ 1 + sum (map type_length (children_of t))
unfolding type_length
type_length-parts t = type_fold-parts (λ at head lengths. 1 + sum lengths) t

sum-cons : (n : ℕ) (ns : List ℕ) → sum (n ∷ ns) ≡ n + sum ns
sum-cons n ns = sum_by-cons (λ x. x) n ns

-- the first parts and one more are no longer than all
pub sum-take-le : {A : Type 0} (g : A → ℕ) (xs : List A) (i : ℕ) (x : A) → i < length xs → x ≡ get_or xs i x → sum (map g (take i xs)) + g x ≤ sum (map g xs)
sum-take-le g [] i x l at = absurd (omega arith)
sum-take-le g (y ∷ ys) zero x l at = omega (arith, sum-cons (g y) (map g ys), ap g at)
sum-take-le g (y ∷ ys) (suc i) x l at = omega (arith, sum-cons (g y) (map g ys), sum-cons (g y) (map g (take i ys)), sum-take-le g ys i x (omega arith) at)

-- the tree of a written type
pub type_of-parts : (scope : Names) (t : written.Type) → type_of scope t ≡ node (head_in scope (head_of t)) (map (type_of scope) (children_of t))
unfolding type_of
type_of-parts scope t = type_fold-parts (λ at head children. node (head_in scope head) children) t
