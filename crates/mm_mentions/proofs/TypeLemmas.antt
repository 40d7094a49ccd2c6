-- What is mentioned by a type, by its head and its children.
use Rattle.std.proofs.Common.{◌≡◌, ◌+◌, ◌++◌, length, sum, map, Bool, ◌∙◌}
use Rattle.std.specs.List.{flat_map}
use Rattle.std.proofs.lemmas.List.{length-map}
use Rattle.std.proofs.lemmas.List.Folds.{flat_map-map}
use Rattle.mm_ast.specs.declared.types.Type as types
use Rattle.mm_mentions.specs.Scopes.{Scope}
use Rattle.mm_definitions.specs.Trees.{line_of, head_of, children_of}
use Rattle.mm_mentions.specs.TypeMentions.{head_mentions, names_in, names_in_all, constructors}
use Rattle.mm_definitions.proofs.TreeLemmas.{type_fold-parts}

pub names_in_parts : (in_where : Bool) (scope : Scope) (t : types.«Type») → names_in in_where scope t ≡ head_mentions in_where scope (line_of t) (head_of t) (length (children_of t)) ++ names_in_all in_where scope (children_of t)
unfolding names_in
names_in_parts in_where scope t =
    type_fold-parts (λ line head below. head_mentions in_where scope line head (length below) ++ flat_map (λ names. names) below) t
    ∙ (λ i. head_mentions in_where scope (line_of t) (head_of t) (length-map (children_of t) (names_in in_where scope) i) ++ flat_map-map (λ names. names) (names_in in_where scope) (children_of t) i)

pub constructors_parts : (t : types.«Type») → constructors t ≡ 1 + sum (map constructors (children_of t))
unfolding constructors
constructors_parts t = type_fold-parts (λ line head below. 1 + sum below) t
