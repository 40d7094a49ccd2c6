-- What is written for bodies and what stands in them are the fewest tokens that spell them.
use Rattle.std.proofs.Common.{◌≡◌, inl, inr, ℕ, List, [], ◌∷◌, ◌++◌, map, refl, sym, ap, ◌∙◌, append_assoc}
use Rattle.std.specs.Prelude.{flat_map}
use Rattle.mm_names.specs.declared.word.Word.{Word as AnyWord}
use Rattle.mm_names.specs.declared.word.Word.TheVariants as words
use Rattle.mm_lex.specs.declared.punct.Punct.TheVariants as puncts
use Rattle.mm_lex.specs.Lexemes.{LexemeKind, Word, Local, Label, Number, Punct}
use Rattle.mm_ast.specs.declared.types.Type as types
use Rattle.mm_ast.specs.declared.bodies.Step.{Step}
use Rattle.mm_ast.specs.declared.bodies.Step.TheVariants as steps_
use Rattle.mm_ast.specs.declared.bodies.Statement.{Statement}
use Rattle.mm_ast.specs.declared.bodies.Statement.TheVariants as statements_
use Rattle.mm_grammar.specs.declared.heads.Base.{Base}
use Rattle.mm_grammar.specs.declared.heads.Base.TheVariants as bases
use Rattle.mm_grammar.specs.Places.{place_at}
use Rattle.mm_grammar.specs.Rules.{Sort, Types, Value, bare}
use Rattle.mm_grammar.specs.Grammar.{path_args, label, step, steps, base, place, callee, named_operand, operand, next_operand, more_operands, operands, op, two_operands, binary, variant_name, new_head, new, dyn_trait, dyn_target, dyncast, built_rvalue, rvalue, set, statement, statements, arm, arms, otherwise, switch_head, cases, switch, called, call_place, arguments, called_with, call, drop_end, end_with_parts, end, block_end, block, more_blocks, blocks, declared, lets, body_blocks, body}
use Rattle.mm_spell.specs.Listed.{behind_comma, listed}
use Rattle.mm_spell.specs.TypeTokens.{path_tokens, type_tokens, path_args_tokens, callee_tokens}
use Rattle.mm_spell_bodies.specs.BodyTokens.{step_tokens, place_tokens, operand_tokens, operands_tokens, op_word, variant_tokens, new_tokens, rvalue_tokens, statement_tokens, label_tokens, arm_tokens, switch_tokens, called_tokens, call_tokens, end_tokens, block_tokens, blocks_tokens, let_tokens, lets_tokens, body_tokens}
use Rattle.mm_shape.proofs.Writing.{Parts, Sorted, Rules, w_nothing, w_local, w_label, w_number, w_word, w_punct, w_ends, w_let, w_labelled, w_then, w_both, w_or, w_many, w_many_below, w_bare, w_made, w_map, w_at, w_inner, w_as, w_optional, w_closed, w_list}
use Rattle.mm_print.proofs.TypeWriting.{name_written, path_written}

-- the same is written for a where it is for what a is
same_at : {A : Type 0} (T U : A → List LexemeKind) {a b : A} → a ≡ b → T b ≡ U b → T a ≡ U a
same_at T U is same = ap T is ∙ same ∙ sym (ap U is)

-- what is written behind the `.` of a step
abbrev behind_dot : Step → List LexemeKind
behind_dot (steps_.Field n) = Number n ∷ []
behind_dot steps_.Deref = Punct puncts.Star ∷ []
behind_dot (steps_.Variant n) = []

-- what is written for the local or static with which a place begins
abbrev base_tokens : Base → List LexemeKind
base_tokens (bases.Local n) = Local n ∷ []
base_tokens (bases.Static p) = Word words.Static ∷ path_tokens p

-- a place is written as what it begins with, and the projections from it
placed : (line : ℕ) (b : Base) (ss : List Step) → place_tokens (place_at line b ss) ≡ base_tokens b ++ flat_map step_tokens ss
placed line (bases.Local n) [] = refl
placed line (bases.Local n) (s ∷ ss) = refl
placed line (bases.Static p) ss = refl

-- three parts behind a word, put together from the left or from the right
pub around : (w : AnyWord) (xs ys zs : List LexemeKind) → Word w ∷ (xs ++ (ys ++ zs)) ≡ Word w ∷ ((xs ++ ys) ++ zs)
around w xs ys zs = ap (λ ks. Word w ∷ ks) (sym (append_assoc xs ys zs))

-- a statement without the `;` behind it
abbrev unended : Statement → List LexemeKind
unended (statements_.Set p v) = place_tokens p ++ Punct puncts.Equals ∷ rvalue_tokens v
unended (statements_.Print o) = Word words.Print ∷ operand_tokens o

ended : (s : Statement) → statement_tokens s ≡ unended s ++ Punct puncts.Semicolon ∷ []
ended (statements_.Set p v) = sym (append_assoc (place_tokens p) (Punct puncts.Equals ∷ rvalue_tokens v) (Punct puncts.Semicolon ∷ []))
ended (statements_.Print o) = refl

module _ {M : Parts} where
  -- ---- places

  pub label_written : Rules M label 0 label_tokens
  unfolding label
  label_written = w_map (w_at w_label)

  pub step_written : Rules M step 0 step_tokens
  unfolding step
  step_written =
      w_or
      (w_as {U = λ s. Punct puncts.Dot ∷ behind_dot s}
      (λ a ks s. elim s.second [ inl x ↦ same_at step_tokens (λ y. Punct puncts.Dot ∷ behind_dot y) x.1 refl | inr x ↦ same_at step_tokens (λ y. Punct puncts.Dot ∷ behind_dot y) x.second.0 refl ])
      (w_punct puncts.Dot (w_or (w_map w_number) (w_as {U = λ s. Punct puncts.Star ∷ []} (λ a ks s. ap behind_dot s.second.0) (w_punct puncts.Star (w_nothing refl))))))
      (w_map (w_punct puncts.At name_written))

  pub steps_written : Rules M steps 0 (λ ss. flat_map step_tokens ss)
  unfolding steps
  steps_written = w_many refl (λ s ss. refl) step_written

  pub base_written : Rules M base 0 base_tokens
  unfolding base
  base_written = w_or (w_map w_local) (w_map (w_word words.Static path_written))

  pub place_written : Rules M place 0 place_tokens
  unfolding place
  place_written = w_made (λ p. placed p.0 p.1.0 p.1.1) (w_at (w_both base_written steps_written))

  pub variant_name_written : Rules M variant_name 0 variant_tokens
  unfolding variant_name
  variant_name_written = w_optional refl (w_punct puncts.Dot name_written)

  pub op_written : Rules M op 0 (λ o. Word (op_word o) ∷ [])
  unfolding op
  op_written =
      w_or (w_bare words.Add refl) (w_or (w_bare words.Sub refl) (w_or (w_bare words.Mul refl) (w_or (w_bare words.Div refl)
      (w_or (w_bare words.Rem refl) (w_or (w_bare words.Eq refl) (w_bare words.Lt refl))))))

-- with what is known of paths with type arguments
module _ {M : Parts} (path_args_written : Rules M path_args 0 path_args_tokens) where
  pub new_head_written : Rules M new_head 0 (λ p. Word words.New ∷ (path_args_tokens p.0 ++ variant_tokens p.1))
  unfolding new_head
  new_head_written = w_word words.New (w_both path_args_written variant_name_written)

  pub dyn_trait_written : Rules M dyn_trait 0 (λ d. Word words.Dyn ∷ path_args_tokens d.of)
  unfolding dyn_trait
  dyn_trait_written = w_map (w_at (w_word words.Dyn path_args_written))

-- and with what is known of types and callees
module _ {M : Parts} (types : Sorted M Types type_tokens) (path_args_written : Rules M path_args 0 path_args_tokens) (callee_written : Rules M callee 0 callee_tokens) where
  -- ---- operands

  pub named_operand_written : Rules M named_operand 0 operand_tokens
  unfolding named_operand
  named_operand_written = w_or (w_map (w_word words.Const path_args_written)) (w_map (w_word words.Fn callee_written))

  pub operand_written : Rules M operand 0 operand_tokens
  unfolding operand
  operand_written =
      w_or (w_map (w_word words.Copy place_written)) (w_or (w_map (w_word words.Move place_written)) (w_or (w_map w_number)
      (w_or (w_bare words.True refl) (w_or (w_bare words.False refl) named_operand_written))))

  pub more_operands_written : Rules M more_operands 0 (λ os. flat_map behind_comma (map operand_tokens os))
  unfolding more_operands next_operand
  more_operands_written = w_many {T = λ o. Punct puncts.Comma ∷ operand_tokens o} refl (λ o os. refl) (w_punct puncts.Comma operand_written)

  pub operands_written : Rules M operands 0 operands_tokens
  unfolding operands
  operands_written =
      w_punct puncts.Open (w_closed {T = λ os. listed (map operand_tokens os)} puncts.Close refl
      (w_list {U = λ os. flat_map behind_comma (map operand_tokens os)} (λ o os. refl) operand_written more_operands_written))

  -- ---- values and statements

  pub two_operands_written : Rules M two_operands 0 (λ p. operand_tokens p.0 ++ Punct puncts.Comma ∷ operand_tokens p.1)
  unfolding two_operands next_operand
  two_operands_written = w_both operand_written (w_punct puncts.Comma operand_written)

  pub binary_written : Rules M binary 0 rvalue_tokens
  unfolding binary
  binary_written = w_map (w_both op_written (w_punct puncts.Open (w_ends puncts.Close two_operands_written)))

  pub new_written : Rules M new 0 new_tokens
  unfolding new
  new_written =
      w_made (λ p. around words.New (path_args_tokens p.0.0) (variant_tokens p.0.1) (operands_tokens p.1))
      (w_both (new_head_written path_args_written) operands_written)

  pub dyn_target_written : Rules M dyn_target 0 (λ p. type_tokens p.0 ++ Punct puncts.Comma ∷ Word words.Dyn ∷ path_args_tokens p.1.of)
  unfolding dyn_target
  dyn_target_written = w_both (w_inner {s = Types} types) (w_punct puncts.Comma (dyn_trait_written path_args_written))

  pub dyncast_written : Rules M dyncast 0 rvalue_tokens
  unfolding dyncast
  dyncast_written = w_map (w_word words.Dyncast (w_punct puncts.Open (w_ends puncts.Close (w_both operand_written (w_punct puncts.Comma dyn_target_written)))))

  pub built_rvalue_written : Rules M built_rvalue 0 rvalue_tokens
  unfolding built_rvalue
  built_rvalue_written =
      w_or (w_map (w_word words.Box (w_punct puncts.Open (w_ends puncts.Close operand_written))))
      (w_or (w_map (w_word words.Tuple operands_written)) (w_or (w_map new_written) (w_or dyncast_written (w_map operand_written))))

  pub rvalue_written : Rules M rvalue 0 rvalue_tokens
  unfolding rvalue
  rvalue_written =
      w_or (w_map (w_punct puncts.Ampersand place_written))
      (w_or (w_map (w_word words.Not (w_punct puncts.Open (w_ends puncts.Close operand_written))))
      (w_or binary_written (w_or (w_map (w_word words.Variant (w_punct puncts.Open (w_ends puncts.Close place_written)))) built_rvalue_written)))

  pub set_written : Rules M set 0 unended
  unfolding set
  set_written = w_map (w_both place_written (w_punct puncts.Equals rvalue_written))

  pub statement_written : Rules M statement 0 statement_tokens
  unfolding statement
  statement_written = w_as (λ a ks s. ended a) (w_ends puncts.Semicolon (w_or (w_map (w_word words.Print operand_written)) set_written))

  pub statements_written : Rules M statements 0 (λ ss. flat_map statement_tokens ss)
  unfolding statements
  statements_written = w_many refl (λ s ss. refl) statement_written

  -- ---- how blocks end

  pub arm_written : Rules M arm 0 arm_tokens
  unfolding arm
  arm_written = w_map (w_both w_number (w_punct puncts.FatArrow (w_ends puncts.Comma label_written)))

  pub arms_written : Rules M arms 0 (λ xs. flat_map arm_tokens xs)
  unfolding arms
  arms_written = w_many refl (λ a xs. refl) arm_written

  pub otherwise_written : Rules M otherwise 0 (λ l. Word words.Else ∷ Punct puncts.FatArrow ∷ Label l.number ∷ Punct puncts.CloseBrace ∷ [])
  unfolding otherwise
  otherwise_written = w_word words.Else (w_punct puncts.FatArrow (w_ends puncts.CloseBrace label_written))

  pub switch_head_written : Rules M switch_head 0 (λ o. Word words.Switch ∷ (operand_tokens o ++ Punct puncts.OpenBrace ∷ []))
  unfolding switch_head
  switch_head_written = w_word words.Switch (w_ends puncts.OpenBrace operand_written)

  pub cases_written : Rules M cases 0 (λ p. flat_map arm_tokens p.0 ++ Word words.Else ∷ Punct puncts.FatArrow ∷ Label p.1.number ∷ Punct puncts.CloseBrace ∷ [])
  unfolding cases
  cases_written = w_both arms_written otherwise_written

  pub switch_written : Rules M switch 0 switch_tokens
  unfolding switch
  switch_written = w_made (λ p. around words.Switch (operand_tokens p.0) (Punct puncts.OpenBrace ∷ []) _) (w_both switch_head_written cases_written)

  pub called_written : Rules M called 0 called_tokens
  unfolding called
  called_written = w_or (w_map (w_punct puncts.Open (w_ends puncts.Close operand_written))) (w_map callee_written)

  pub call_place_written : Rules M call_place 0 (λ p. Word words.Call ∷ (place_tokens p ++ Punct puncts.Equals ∷ []))
  unfolding call_place
  call_place_written = w_word words.Call (w_ends puncts.Equals place_written)

  pub arguments_written : Rules M arguments 0 (λ p. operands_tokens p.0 ++ Punct puncts.Arrow ∷ label_tokens p.1)
  unfolding arguments
  arguments_written = w_both operands_written (w_punct puncts.Arrow label_written)

  pub called_with_written : Rules M called_with 0 (λ p. called_tokens p.0 ++ (operands_tokens p.1.0 ++ Punct puncts.Arrow ∷ label_tokens p.1.1))
  unfolding called_with
  called_with_written = w_both called_written arguments_written

  pub call_written : Rules M call 0 call_tokens
  unfolding call
  call_written = w_made (λ p. around words.Call (place_tokens p.0) (Punct puncts.Equals ∷ []) _) (w_both call_place_written called_with_written)

  pub drop_end_written : Rules M drop_end 0 end_tokens
  unfolding drop_end
  drop_end_written = w_map (w_word words.Drop (w_both place_written (w_punct puncts.Arrow label_written)))

  pub end_with_parts_written : Rules M end_with_parts 0 end_tokens
  unfolding end_with_parts
  end_with_parts_written = w_or (w_map switch_written) (w_or (w_map call_written) drop_end_written)

  pub end_written : Rules M end 0 end_tokens
  unfolding end
  end_written = w_or (w_bare words.Return refl) (w_or (w_bare words.Unreachable refl) (w_or (w_map (w_word words.Goto label_written)) end_with_parts_written))

  -- ---- blocks and bodies

  pub block_end_written : Rules M block_end 0 (λ e. end_tokens e ++ Punct puncts.CloseBrace ∷ [])
  unfolding block_end
  block_end_written = w_ends puncts.CloseBrace end_written

  pub block_written : (k : ℕ) → Rules M block k (block_tokens k)
  unfolding block
  block_written k = w_map (w_labelled (w_punct puncts.Colon (w_punct puncts.OpenBrace (w_both statements_written block_end_written))))

  pub more_blocks_written : (k : ℕ) → Rules M more_blocks k (blocks_tokens k)
  unfolding more_blocks
  more_blocks_written k = w_many_below blocks_tokens (λ i. refl) (λ i b bs. refl) block_written

  pub blocks_written : Rules M blocks 0 (blocks_tokens 0)
  unfolding blocks
  blocks_written = w_map (w_then (block_written 0) more_blocks_written)

  pub declared_written : (k : ℕ) → Rules M declared k (let_tokens k)
  unfolding declared
  declared_written k = w_word words.Let (w_let (w_punct puncts.Colon (w_ends puncts.Semicolon (w_inner {s = Types} types))))

  pub lets_written : (k : ℕ) → Rules M lets k (lets_tokens k)
  unfolding lets
  lets_written k = w_many_below lets_tokens (λ i. refl) (λ i t ts. refl) declared_written

  pub body_blocks_written : Rules M body_blocks 0 (λ bs. blocks_tokens 0 bs ++ Punct puncts.CloseBrace ∷ [])
  unfolding body_blocks
  body_blocks_written = w_ends puncts.CloseBrace blocks_written

  pub body_written : (k : ℕ) → Rules M body k (body_tokens k)
  unfolding body
  body_written k = w_map (w_punct puncts.OpenBrace (w_both (lets_written k) body_blocks_written))
