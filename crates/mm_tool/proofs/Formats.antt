-- What is reported of a tree that is not loaded, and of a text whose tree is answered.
use Rattle.std.proofs.Common.{◌≡◌, inl, inr, ℕ, List, Result, Ok, Err, IfOk, refl}
use Rattle.mm_lex.specs.declared.token.Token.{Token}
use Rattle.mm_lex.specs.declared.text_fault.TextFault.{TextFault}
use Rattle.mm_lex.specs.declared.text_fault.TextFault.TheVariants as faults
use Rattle.mm_lex.specs.Lexemes.{LexemeKind, lexemes}
use Rattle.mm_lex.specs.Tokens.{AreTokensOf}
use Rattle.mm_ast.specs.declared.items.Ast.{Ast}
use Rattle.mm_grammar.specs.Reading.{IsText}
use Rattle.mm_load_plain.specs.declared.rule.Rule.{Rule}
use Rattle.mm_load_plain.specs.declared.load_error.LoadError.{LoadError}
use Rattle.mm_load_plain.specs.declared.load_error.LoadError.TheVariants as errors
use Rattle.mm_built.specs.Built.{IsBuilt}
use Rattle.mm_load_plain.specs.Rules.{IsFirstFault}
use Rattle.mm_shape.specs.Shapes.{kinds_of}
use Rattle.mm_print.specs.Printing.{Spell}
use Rattle.mm_print.proofs.Back.{text_spells}
use Rattle.mm_tool.specs.declared.answer.Answer.{Answer}
use Rattle.mm_tool.specs.Formatting.{TellsFault, TellsUnloaded, IsTreeFormat, IsFormat}
use Rattle.mm_tool.specs.Report.{IsAnswerStatus}

pub unloaded_is : (tree : Ast) (error : LoadError) (status : ℕ) (output : List ℕ) → ((rule : Rule) (line : ℕ) → error ≡ errors.Rule rule line → IsFirstFault tree rule line) → (error ≡ errors.NotBuilt → IsBuilt tree → ⊥)
    → TellsUnloaded error status output → IsTreeFormat tree status output
unloaded_is tree (errors.Rule rule line) status output fault unbuilt told = inr (inl (record { status_is = told.0; rule = rule; line = line; fault = fault rule line refl; output_is = told.1 }))
unloaded_is tree errors.NotBuilt status output fault unbuilt told = inr (inr (record { status_is = told.0; unbuilt = unbuilt refl; output_is = told.1 }))
unloaded_is tree errors.NoMemory status output fault unbuilt told = absurd told

pub read_is : (text : List ℕ) (tokens : List Token) (tree : Ast) (status : ℕ) (output : List ℕ) → AreTokensOf text tokens → IsText tree (lexemes text tokens)
    → ((kinds : List LexemeKind) → Spell tree kinds → IsTreeFormat tree status output) → IsFormat text status output
read_is text tokens tree status output lexed spelled answer = inl (record {
  tokens = tokens;
  lexed = lexed;
  tree = tree;
  spelled = spelled;
  answer = answer (kinds_of (lexemes text tokens)) (text_spells text tokens tree lexed spelled);
})

tree_status : (tree : Ast) (status : ℕ) (output : List ℕ) → IsTreeFormat tree status output → IsAnswerStatus status
tree_status tree status output (inl is) = inl is.status_is
tree_status tree status output (inr (inl is)) = inr (inr (inl is.status_is))
tree_status tree status output (inr (inr is)) = inr (inr (inr (inr (inr (inr (inr (inr (inr is.status_is))))))))

fault_status : (fault : TextFault) (status : ℕ) (output : List ℕ) → TellsFault fault status output → IsAnswerStatus status
fault_status (faults.BadText line column rule) status output told = inr (inl told.0)
fault_status faults.NoMemory status output told = absurd told

format_status : (text : List ℕ) (status : ℕ) (output : List ℕ) → IsFormat text status output → IsAnswerStatus status
format_status text status output (inl is) = tree_status is.tree status output is.answer
format_status text status output (inr (inl is)) = fault_status is.fault status output is.told
format_status text status output (inr (inr is)) = fault_status is.fault status output is.told

-- the statuses of an answer to a text that is to be written in its canonical form
pub format_statuses : {E : Type 0} (r : Result Answer E) (text : List ℕ) → IfOk r (λ answer. IsFormat text answer.status answer.output.items) → IfOk r (λ answer. IsAnswerStatus answer.status)
format_statuses (Ok answer) text is = format_status text answer.status answer.output.items is
format_statuses (Err e) text is = tt
