-- What is written for names, paths, types and callees are the fewest tokens that spell them.
use Rattle.std.proofs.Common.{◌≡◌, ◌⊎◌, inl, inr, ℕ, zero, suc, ◌+◌, ◌-◌, List, [], ◌∷◌, ◌++◌, length, map, take, drop, Option, None, Some, refl, sym, ap, ◌∙◌, append-nil, append_assoc, arith}
use Rattle.std.proofs.lemmas.List.{map-append, length-append}
use Rattle.std.proofs.Math.Seq.{take-append_seam, drop-append_seam}
use Rattle.std.specs.Prelude.{flat_map}
use Rattle.mm_names.specs.declared.word.Word.TheVariants as words
use Rattle.mm_lex.specs.declared.punct.Punct.TheVariants as puncts
use Rattle.mm_lex.specs.Lexemes.{LexemeKind, Name, Word, Punct}
use Rattle.mm_ast.specs.declared.types.Type as types
use Rattle.mm_ast.specs.declared.types.Type.TheFolds.{fold-roll-Type}
use Rattle.mm_ast.specs.declared.types.Head.TheVariants as heads
use Rattle.mm_grammar.specs.Rules.{Sort, Types, Value, Rule, in_angles as grammar_in_angles}
use Rattle.mm_grammar.specs.Grammar.{name, next_name, more_names, params, ty, next_type, more_types, some_types, args, segment, more_segments, segments, path, path_args, Shape, tys, fields, tuple, reference, boxed, fn_pointer, shape_of, behind_krate, named_shape, named, path_shape, shape, call_method, trait_method, called_method, method_of, method_callee, callee, type_node}
use Rattle.mm_grammar.specs.declared.heads.CalledMethod.{CalledMethod}
use Rattle.mm_grammar.specs.declared.heads.CalledMethod.TheVariants as methods
use Rattle.mm_grammar.specs.declared.heads.TraitMethod.{TraitMethod}
use Rattle.mm_shape.specs.Spellings.{spelled_by, spelled_within}
use Rattle.mm_shape.specs.Shapes.{type_parts}
use Rattle.mm_shape.proofs.Twins.{twin_within}
use Rattle.mm_shape.proofs.Levels.{type_twins, type_both, types_both}
use Rattle.mm_spell.specs.Listed.{behind_comma, listed, in_parens, in_angles}
use Rattle.mm_spell.specs.TypeTokens.{name_tokens, segment_tokens, path_tokens, params_tokens, fn_pointer_tokens, head_tokens, type_tokens, types_tokens, args_tokens, path_args_tokens, self_tokens, method_tokens, callee_tokens}
use Rattle.mm_shape.proofs.Writing.{Parts, Sorted, Rules, w_nothing, w_text, w_word, w_punct, w_ends, w_both, w_or, w_many, w_made, w_map, w_at, w_inner, w_as, w_bare, w_optional, w_closed, w_list}

-- a head and the types below it
abbrev pub shape_tokens : Shape → List LexemeKind
shape_tokens s = head_tokens s.0 (map type_tokens s.1)

-- what spells types in a list spells one at least
some_type : (M : Parts) (ts : List types.«Type») (ks : List LexemeKind) → spelled_by M.spelled some_types 0 ts ks → (first : types.«Type») × (others : List types.«Type») × (ts ≡ first ∷ others)
unfolding some_types
some_type M ts ks s = (s.0.0, s.0.1, s.1)

-- the last type of a function pointer is the result
pointer_parts : (xs : List (List LexemeKind)) (y : List LexemeKind)
    → fn_pointer_tokens (xs ++ y ∷ []) ≡ Word words.FnPtr ∷ Punct puncts.Open ∷ ((listed xs ++ Punct puncts.Close ∷ []) ++ Punct puncts.Arrow ∷ y)
pointer_parts xs y =
    let l = length-append xs (y ∷ []) in
    let n : length (xs ++ y ∷ []) - 1 ≡ length xs = omega (arith, l) in
    let front : take (length (xs ++ y ∷ []) - 1) (xs ++ y ∷ []) ≡ xs = ap (λ m. take m (xs ++ y ∷ [])) n ∙ take-append_seam xs (y ∷ []) in
    let back : listed (drop (length (xs ++ y ∷ []) - 1) (xs ++ y ∷ [])) ≡ y = ap (λ m. listed (drop m (xs ++ y ∷ []))) n ∙ ap listed (drop-append_seam xs (y ∷ [])) ∙ append-nil y in
    λ i. Word words.FnPtr ∷ (in_parens (listed (front i)) ++ Punct puncts.Arrow ∷ back i)

pointer_same : (ts : List types.«Type») (t : types.«Type»)
    → fn_pointer_tokens (map type_tokens (ts ++ t ∷ [])) ≡ Word words.FnPtr ∷ Punct puncts.Open ∷ ((types_tokens ts ++ Punct puncts.Close ∷ []) ++ Punct puncts.Arrow ∷ type_tokens t)
pointer_same ts t = ap fn_pointer_tokens (map-append type_tokens ts (t ∷ [])) ∙ pointer_parts (map type_tokens ts) (type_tokens t)

-- a name alone, or a path with arguments
abbrev more_tokens : Option (List (List ℕ) × List types.«Type») → List LexemeKind
more_tokens None = []
more_tokens (Some p) = flat_map segment_tokens p.0 ++ args_tokens p.1

named_same : (line : ℕ) (krate : List ℕ) (more : Option (List (List ℕ) × List types.«Type»)) → shape_tokens (named_shape line krate more) ≡ Name krate ∷ more_tokens more
named_same line krate None = refl
named_same line krate (Some p) = refl

-- a method of a trait, or that of `Call`
abbrev trait_method_tokens : TraitMethod → List LexemeKind
trait_method_tokens m = path_args_tokens m.of ++ Punct puncts.Greater ∷ Punct puncts.PathSep ∷ (name_tokens m.name ++ args_tokens m.args)

abbrev called_tokens : CalledMethod → List LexemeKind
called_tokens (methods.Call line) = Word words.CallTrait ∷ Punct puncts.Greater ∷ Punct puncts.PathSep ∷ Word words.Call ∷ []
called_tokens (methods.Trait m) = trait_method_tokens m

method_same : (t : types.«Type») (called : CalledMethod) → callee_tokens (method_of t called) ≡ Punct puncts.Less ∷ (type_tokens t ++ Word words.As ∷ called_tokens called)
method_same t (methods.Call line) = ap (λ ks. Punct puncts.Less ∷ ks) (append_assoc (type_tokens t) (Word words.As ∷ []) (called_tokens (methods.Call line)))
method_same t (methods.Trait m) = ap (λ ks. Punct puncts.Less ∷ ks) (append_assoc (type_tokens t) (Word words.As ∷ []) (trait_method_tokens m))

module _ {M : Parts} where
  pub name_written : Rules M name 0 name_tokens
  unfolding name
  name_written = w_map (w_at w_text)

  more_names_written : Rules M more_names 0 (λ ns. flat_map behind_comma (map name_tokens ns))
  unfolding more_names next_name
  more_names_written = w_many {T = λ n. Punct puncts.Comma ∷ name_tokens n} refl (λ n ns. refl) (w_punct puncts.Comma name_written)

  -- [ "<" x ">" ], where there is one at least between the brackets
  in_angles_written : {A : Type 0} {f : Rule (List A)} {k : ℕ} (T : A → List LexemeKind) → ((xs : List A) (ks : List LexemeKind) → spelled_by M.spelled f k xs ks → (first : A) × (others : List A) × (xs ≡ first ∷ others))
      → Rules M f k (λ xs. listed (map T xs)) → Rules M (grammar_in_angles f) k (λ xs. in_angles (map T xs))
  in_angles_written {k = k} T some r =
      w_or
      (w_as {U = λ xs. Punct puncts.Less ∷ (listed (map T xs) ++ Punct puncts.Greater ∷ [])}
      (λ xs ks s. let o = some xs s.second.front s.second.first in ap (λ ys. in_angles (map T ys)) o.2 ∙ sym (ap (λ ys. Punct puncts.Less ∷ (listed (map T ys) ++ Punct puncts.Greater ∷ [])) o.2))
      (w_punct puncts.Less (w_ends puncts.Greater r)))
      (w_nothing refl)

  pub params_written : Rules M params 0 params_tokens
  unfolding params
  params_written = in_angles_written name_tokens (λ ns ks s. (s.0.0, s.0.1, s.1)) (w_list {U = λ ns. flat_map behind_comma (map name_tokens ns)} (λ n ns. refl) name_written more_names_written)

  segment_written : Rules M segment 0 segment_tokens
  unfolding segment
  segment_written = w_punct puncts.PathSep w_text

  segments_written : Rules M segments 0 (λ texts. flat_map segment_tokens texts)
  unfolding segments more_segments
  segments_written = w_list {U = λ texts. flat_map segment_tokens texts} (λ text texts. refl) segment_written (w_many refl (λ text texts. refl) segment_written)

  pub path_written : Rules M path 0 path_tokens
  unfolding path
  path_written = w_map (w_at (w_both w_text segments_written))

  -- what is known of the types within
  module _ (each_type : Sorted M Types type_tokens) where
    pub type_written : Rules M ty 0 type_tokens
    type_written = w_inner {s = Types} each_type

    more_types_written : Rules M more_types 0 (λ ts. flat_map behind_comma (map type_tokens ts))
    unfolding more_types next_type
    more_types_written = w_many {T = λ t. Punct puncts.Comma ∷ type_tokens t} refl (λ t ts. refl) (w_punct puncts.Comma type_written)

    pub some_types_written : Rules M some_types 0 types_tokens
    unfolding some_types
    some_types_written = w_list {U = λ ts. flat_map behind_comma (map type_tokens ts)} (λ t ts. refl) type_written more_types_written

    pub args_written : Rules M args 0 args_tokens
    unfolding args
    args_written = in_angles_written type_tokens (some_type M) some_types_written

    pub path_args_written : Rules M path_args 0 path_args_tokens
    unfolding path_args
    path_args_written = w_map (w_both path_written args_written)

    -- "(" tys ")"
    tys_written : Rules M tys 0 (λ ts. types_tokens ts ++ Punct puncts.Close ∷ [])
    unfolding tys
    tys_written = w_closed puncts.Close refl some_types_written

    -- two types at least
    fields_written : Rules M fields 0 types_tokens
    unfolding fields
    fields_written =
        w_list (λ t ts. refl) type_written
        (w_as {U = λ ts. Punct puncts.Comma ∷ types_tokens ts}
        (λ ts ks s. let o = some_type M ts s.back s.second in ap (λ us. flat_map behind_comma (map type_tokens us)) o.2 ∙ sym (ap (λ us. Punct puncts.Comma ∷ types_tokens us) o.2))
        (w_punct puncts.Comma some_types_written))

    reference_written : Rules M reference 0 shape_tokens
    unfolding reference
    reference_written = w_made {U = λ t. Punct puncts.Ampersand ∷ type_tokens t} (λ t. ap (λ ks. Punct puncts.Ampersand ∷ ks) (append-nil (type_tokens t))) (w_punct puncts.Ampersand type_written)

    boxed_written : Rules M boxed 0 shape_tokens
    unfolding boxed
    boxed_written =
        w_made {U = λ t. Word words.BoxType ∷ Punct puncts.Less ∷ (type_tokens t ++ Punct puncts.Greater ∷ [])}
        (λ t. ap (λ ks. Word words.BoxType ∷ Punct puncts.Less ∷ (ks ++ Punct puncts.Greater ∷ [])) (append-nil (type_tokens t)))
        (w_word words.BoxType (w_punct puncts.Less (w_ends puncts.Greater type_written)))

    tuple_written : Rules M tuple 0 shape_tokens
    unfolding tuple
    tuple_written = w_map (w_punct puncts.Open (w_closed puncts.Close refl fields_written))

    fn_pointer_written : Rules M fn_pointer 0 shape_tokens
    unfolding fn_pointer
    fn_pointer_written =
        w_made {U = λ p. Word words.FnPtr ∷ Punct puncts.Open ∷ ((types_tokens p.0 ++ Punct puncts.Close ∷ []) ++ Punct puncts.Arrow ∷ type_tokens p.1)} (λ p. pointer_same p.0 p.1)
        (w_word words.FnPtr (w_punct puncts.Open (w_both tys_written (w_punct puncts.Arrow type_written))))

    behind_krate_written : Rules M behind_krate 0 (λ p. flat_map segment_tokens p.0 ++ args_tokens p.1)
    unfolding behind_krate
    behind_krate_written = w_both segments_written args_written

    named_written : Rules M named 0 shape_tokens
    unfolding named
    named_written = w_made {U = λ p. Name p.1.0 ∷ more_tokens p.1.1} (λ p. named_same p.0 p.1.0 p.1.1) (w_at (w_both {U = more_tokens} w_text (w_optional refl behind_krate_written)))

    path_shape_written : Rules M path_shape 0 shape_tokens
    unfolding path_shape
    path_shape_written =
        w_or (w_map (w_word words.FnItem path_args_written))
        (w_or (w_map (w_word words.Closure path_args_written))
        (w_or (w_map (w_word words.Dyn path_args_written)) named_written))

    pub shape_written : Rules M shape 0 shape_tokens
    unfolding shape
    shape_written =
        w_or (w_bare words.SelfType refl) (w_or (w_bare words.U64 refl) (w_or (w_bare words.Bool refl)
        (w_or tuple_written (w_or reference_written (w_or boxed_written (w_or fn_pointer_written path_shape_written))))))

    type_node_written : Rules M type_node 0 type_tokens
    unfolding type_node type_tokens
    type_node_written =
        w_made {U = λ p. shape_tokens p.1} (λ p. fold-roll-Type (List LexemeKind) (λ layer. head_tokens layer.head layer.children) (record { line = p.0; head = p.1.0; children = p.1.1 }))
        (w_at shape_written)

    call_method_written : Rules M call_method 0 called_tokens
    unfolding call_method
    call_method_written =
        w_made {U = λ p. Word words.CallTrait ∷ Punct puncts.Greater ∷ Punct puncts.PathSep ∷ Word words.Call ∷ []} (λ p. refl)
        (w_at (w_word words.CallTrait (w_punct puncts.Greater (w_punct puncts.PathSep (w_bare words.Call refl)))))

    trait_method_written : Rules M trait_method 0 trait_method_tokens
    unfolding trait_method
    trait_method_written = w_map (w_both path_args_written (w_punct puncts.Greater (w_punct puncts.PathSep (w_both name_written args_written))))

    called_method_written : Rules M called_method 0 called_tokens
    unfolding called_method
    called_method_written = w_or call_method_written (w_map trait_method_written)

    method_callee_written : Rules M method_callee 0 callee_tokens
    unfolding method_callee
    method_callee_written =
        w_made {U = λ p. Punct puncts.Less ∷ (type_tokens p.0 ++ Word words.As ∷ called_tokens p.1)} (λ p. method_same p.0 p.1)
        (w_punct puncts.Less (w_both type_written (w_word words.As called_method_written)))

    pub callee_written : Rules M callee 0 callee_tokens
    unfolding callee
    callee_written = w_or method_callee_written (w_map path_args_written)

-- what stands in types that nest so many levels deep
abbrev pub type_level : ℕ → Parts
type_level n = record {
  spelled = type_parts (spelled_within type_node type_parts n);
  twins = type_twins (twin_within type_node type_twins n);
  both = type_both (twin_within type_node type_twins n) (spelled_within type_node type_parts n) (types_both n);
}

-- types that nest no deeper than so many levels
pub types_written : (n : ℕ) → Sorted (type_level n) Types type_tokens
unfolding spelled_within twin_within
types_written zero = record { writes = λ t others all s. absurd s; same = λ x y ks t. absurd t }
types_written (suc n) = let r = type_node_written {M = type_level n} (types_written n) in record { writes = r.writes; same = r.same }
