-- The grammar of the text language: constant terms. Over each part stands its rule.
use Rattle.std.specs.Prelude.{List, [], true, false}
use Rattle.mm_names.specs.declared.word.Word.TheVariants as words
use Rattle.mm_lex.specs.declared.punct.Punct.TheVariants as puncts
use Rattle.mm_ast.specs.declared.terms.Term as terms
use Rattle.mm_ast.specs.declared.terms.Term.TheViews.{roll-Term}
use Rattle.mm_ast.specs.declared.terms.TermHead.{TermHead}
use Rattle.mm_ast.specs.declared.terms.TermHead.TheVariants as term_heads
use Rattle.mm_forms.specs.Forms.{Many, Map, At, Inner}
use Rattle.mm_grammar.specs.Rules.{Terms, Rule, line_of, word, punct, ◌⋅◌, ◌or◌, bare, list, closed, number}
use Rattle.mm_grammar.specs.Grammar.{path, callee, new_head}

abbrev pub term : Rule terms.Term
term = Inner Terms

-- the head of a constant term and its parts
abbrev pub TermShape : Type 0
TermShape = TermHead × List terms.Term

unfoldable pub next_term : Rule terms.Term
next_term = punct puncts.Comma term

unfoldable pub more_terms : Rule (List terms.Term)
more_terms = Many next_term

-- terms = [ term { "," term } ] . Here in its parentheses.
unfoldable pub parts : Rule (List terms.Term)
parts = punct puncts.Open (closed puncts.Close (list term more_terms))

-- "new" path args [ "." name ] "(" terms ")"
unfoldable pub new_term : Rule TermShape
new_term = Map (λ p. (term_heads.New p.0.0 p.0.1, p.1)) (new_head ⋅ parts)

-- term = number | "true" | "false" | "tuple" "(" terms ")" | "fn" callee | "new" path args [ "." name ] "(" terms ")" | "&" path .
unfoldable pub term_shape : Rule TermShape
term_shape =
    Map (λ n. (term_heads.Number n, [])) number
    or bare words.True (term_heads.Bool true, [])
    or bare words.False (term_heads.Bool false, [])
    or Map (λ ts. (term_heads.Tuple, ts)) (word words.Tuple parts)
    or Map (λ c. (term_heads.Fn c, [])) (word words.Fn callee)
    or new_term
    or Map (λ p. (term_heads.At p, [])) (punct puncts.Ampersand path)

unfoldable pub term_node : Rule terms.Term
term_node = Map (λ p. roll-Term (record { line = p.0; head = p.1.0; parts = p.1.1 })) (At line_of term_shape)
