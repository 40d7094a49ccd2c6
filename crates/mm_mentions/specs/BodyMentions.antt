-- What is mentioned by the body of a function, a method or a closure.
use Rattle.std.specs.Prelude.{ℕ, ◌+◌, List, [], ◌∷◌, ◌++◌, length, map, sum, None, Some, false}
use Rattle.std.specs.List.{flat_map}
use Rattle.mm_ast.specs.declared.bodies.Block.{Block}
use Rattle.mm_ast.specs.declared.bodies.Body.{Body}
use Rattle.mm_ast.specs.declared.bodies.Call.{Call}
use Rattle.mm_ast.specs.declared.bodies.Called.{Called}
use Rattle.mm_ast.specs.declared.bodies.Called.TheVariants as calls
use Rattle.mm_ast.specs.declared.bodies.DynTrait.{DynTrait}
use Rattle.mm_ast.specs.declared.bodies.End.{End}
use Rattle.mm_ast.specs.declared.bodies.End.TheVariants as ends
use Rattle.mm_ast.specs.declared.bodies.New.{New}
use Rattle.mm_ast.specs.declared.bodies.Operand.{Operand}
use Rattle.mm_ast.specs.declared.bodies.Operand.TheVariants as operands
use Rattle.mm_ast.specs.declared.bodies.Place.{Place}
use Rattle.mm_ast.specs.declared.bodies.Place.TheVariants as places
use Rattle.mm_ast.specs.declared.bodies.Rvalue.{Rvalue}
use Rattle.mm_ast.specs.declared.bodies.Rvalue.TheVariants as rvalues
use Rattle.mm_ast.specs.declared.bodies.Statement.{Statement}
use Rattle.mm_ast.specs.declared.bodies.Statement.TheVariants as statements
use Rattle.mm_ast.specs.declared.bodies.Switch.{Switch}
use Rattle.mm_mentions.specs.declared.frame.Frame.{Frame}
use Rattle.mm_definitions.specs.declared.kinds.Kind.TheVariants as kinds
use Rattle.mm_definitions.specs.declared.kinds.Wanted.TheVariants as wants
use Rattle.mm_mentions.specs.declared.mention.Mention.{Mention}
use Rattle.mm_mentions.specs.declared.mention.What.TheVariants as whats
use Rattle.mm_mentions.specs.CalleeMentions.{named_mentions, callee_mentions, new_mentions}
use Rattle.mm_mentions.specs.Frames.{frame_of, local_mention, label_mention}
use Rattle.mm_mentions.specs.Mentions.{at, path_at, dyn_at}
use Rattle.mm_mentions.specs.Scopes.{Scope}
use Rattle.mm_mentions.specs.TypeMentions.{names_in_all, constructors, written_type, written_types}

-- the local or the static in which a place lies; its projections name nothing here
unfoldable pub place_mentions : Frame → Place → List Mention
place_mentions frame (places.Local local) = local_mention frame local ∷ []
place_mentions frame (places.Projection projection) = local_mention frame projection.local ∷ []
place_mentions frame (places.Static static) = path_at (wants.One kinds.Static) static.path 0 None ∷ []

-- `dyn` and a trait, written as a type by itself; the type arguments are parts of it
unfoldable pub dyn_trait_mentions : Scope → DynTrait → List Mention
dyn_trait_mentions scope d =
    path_at (wants.One kinds.Trait) d.of.path (length d.of.args) None
    ∷ dyn_at d.line d.of.path
    ∷ names_in_all false scope d.of.args
    ++ at d.line (whats.Type (1 + sum (map constructors d.of.args)))
    ∷ []

module _ (scope : Scope) (frame : Frame) where
  unfoldable pub operand_mentions : Operand → List Mention
  operand_mentions (operands.Copy place) = place_mentions frame place
  operand_mentions (operands.Move place) = place_mentions frame place
  operand_mentions (operands.Const named) = named_mentions scope (wants.One kinds.Const) named None
  operand_mentions (operands.Fn callee) = callee_mentions scope callee None
  operand_mentions _ = []

  abbrev pub operands_mentions : List Operand → List Mention
  operands_mentions operands = flat_map operand_mentions operands

  -- what is made by `new`, and the operands of which it is made
  abbrev pub made_mentions : New → List Mention
  made_mentions new = new_mentions scope new.of new.variant (length new.operands) ++ operands_mentions new.operands

  unfoldable pub rvalue_mentions : Rvalue → List Mention
  rvalue_mentions (rvalues.Use operand) = operand_mentions operand
  rvalue_mentions (rvalues.Ref place) = place_mentions frame place
  rvalue_mentions (rvalues.Not operand) = operand_mentions operand
  rvalue_mentions (rvalues.Binary op left right) = operand_mentions left ++ operand_mentions right
  rvalue_mentions (rvalues.Variant place) = place_mentions frame place
  rvalue_mentions (rvalues.Boxed operand) = operand_mentions operand
  rvalue_mentions (rvalues.Tuple operands) = operands_mentions operands
  rvalue_mentions (rvalues.New new) = made_mentions new
  rvalue_mentions (rvalues.Dyn operand type dyn) = operand_mentions operand ++ written_type scope type ++ dyn_trait_mentions scope dyn

  -- where the value goes, and what it is made of
  unfoldable pub statement_mentions : Statement → List Mention
  statement_mentions (statements.Set place rvalue) = place_mentions frame place ++ rvalue_mentions rvalue
  statement_mentions (statements.Print operand) = operand_mentions operand

  -- the operand, the labels of the arms, and that of `else`
  unfoldable pub switch_mentions : Switch → List Mention
  switch_mentions s = operand_mentions s.operand ++ map (λ arm. label_mention frame arm.label) s.arms ++ label_mention frame s.otherwise ∷ []

  -- what is called with so many operands: how many a pointer takes is in its type
  unfoldable pub called_mentions : Called → ℕ → List Mention
  called_mentions (calls.Callee callee) operands = callee_mentions scope callee (Some operands)
  called_mentions (calls.Pointer operand) operands = operand_mentions operand

  -- where the result goes, what is called, the operands, and the label behind the call
  unfoldable pub call_mentions : Call → List Mention
  call_mentions call =
      place_mentions frame call.place
      ++ called_mentions call.called (length call.operands)
      ++ operands_mentions call.operands
      ++ label_mention frame call.target
      ∷ []

  unfoldable pub end_mentions : End → List Mention
  end_mentions ends.Return = []
  end_mentions ends.Unreachable = []
  end_mentions (ends.Goto label) = label_mention frame label ∷ []
  end_mentions (ends.Switch switch) = switch_mentions switch
  end_mentions (ends.Call call) = call_mentions call
  end_mentions (ends.Drop place label) = place_mentions frame place ++ label_mention frame label ∷ []

  unfoldable pub block_mentions : Block → List Mention
  block_mentions block = flat_map statement_mentions block.statements ++ end_mentions block.end

-- the types of the `let` locals, and the blocks, of a body with so many parameters
unfoldable pub body_mentions : Scope → ℕ → Body → List Mention
body_mentions scope params body = written_types scope body.lets ++ flat_map (block_mentions scope (frame_of params body)) body.blocks
