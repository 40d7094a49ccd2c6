-- What is known of types, of constant terms, of what stands in braces, and of a text.
use Rattle.std.proofs.Common.{◌≡◌, ◌⊎◌, ℕ, List, true, false, refl}
use Rattle.mm_lex.specs.Lexemes.{Lexeme}
use Rattle.mm_ast.specs.declared.items.Ast.{Ast}
use Rattle.mm_forms.specs.Forms.{firsts, empty, more}
use Rattle.mm_forms.specs.Nesting.{within, beyond}
use Rattle.mm_forms.proofs.Laws.{Law}
use Rattle.mm_forms.proofs.Spellings.{Crossing}
use Rattle.mm_forms.proofs.Nesting.{Part, Sorted, itself, there, absent, nests_law, form_law, form_split}
use Rattle.mm_grammar.specs.Codes.{code}
use Rattle.mm_grammar.specs.Rules.{Sort, Types, Terms, Modules, number_of}
use Rattle.mm_grammar.specs.Grammar.{type_node}
use Rattle.mm_grammar.specs.TermGrammar.{term_node}
use Rattle.mm_grammar.specs.ItemGrammar.{braces, crates}
use Rattle.mm_grammar.specs.Reading.{start, type_languages, is_type, type_crossings, type_readers, type_in, term_languages, is_term, term_crossings, term_readers, term_in, module_languages, in_braces, module_crossings, module_readers, braces_in, languages, crossings, readers, read, IsText, IsAnyText, IsPastLimit}
use Rattle.mm_grammar.proofs.Deciding.{is_kind, is_counted, sample, counted, goes_on, no_sort, types_only, types_and_terms, all_sorts, type_fits, term_fits, braces_fits, text_decided}

pub type_part : (n : ℕ) → Part code (within code number_of type_node type_languages true n) (is_type false) (beyond code number_of type_node type_languages type_crossings n) (type_in n) (start Types) (goes_on Types)
type_part = nests_law code number_of start goes_on is_kind is_counted types_only sample counted type_node (start Types) (goes_on Types) type_languages type_crossings type_readers no_sort sorts type_fits
  where
    sorts : (s : Sort) → Sorted code (start Types) (goes_on Types) (λ b L. type_languages b L s) (λ C. type_crossings C s) (λ R. type_readers R s) (start s) (goes_on s) (types_only s) (no_sort s)
    sorts Types = itself
    sorts Terms = absent
    sorts Modules = absent

pub term_part : (n : ℕ) → Part code (within code number_of term_node term_languages true n) (is_term false) (beyond code number_of term_node term_languages term_crossings n) (term_in n) (start Terms) (goes_on Terms)
term_part = nests_law code number_of start goes_on is_kind is_counted types_and_terms sample counted term_node (start Terms) (goes_on Terms) term_languages term_crossings term_readers types_only sorts term_fits
  where
    sorts : (s : Sort) → Sorted code (start Terms) (goes_on Terms) (λ b L. term_languages b L s) (λ C. term_crossings C s) (λ R. term_readers R s) (start s) (goes_on s) (types_and_terms s) (types_only s)
    sorts Types = there {N = is_type} (type_part 2048)
    sorts Terms = itself
    sorts Modules = absent

pub braces_part : (n : ℕ) → Part code (within code number_of braces module_languages true n) (in_braces false) (beyond code number_of braces module_languages module_crossings n) (braces_in n) (start Modules) (goes_on Modules)
braces_part = nests_law code number_of start goes_on is_kind is_counted all_sorts sample counted braces (start Modules) (goes_on Modules) module_languages module_crossings module_readers types_and_terms sorts braces_fits
  where
    sorts : (s : Sort) → Sorted code (start Modules) (goes_on Modules) (λ b L. module_languages b L s) (λ C. module_crossings C s) (λ R. module_readers R s) (start s) (goes_on s) (all_sorts s) (types_and_terms s)
    sorts Types = there {N = is_type} (type_part 2048)
    sorts Terms = there {N = is_term} (term_part 256)
    sorts Modules = itself

-- a part of each sort, as it stands in a text
pub part_of : (s : Sort) → all_sorts s ≡ true → Part code (languages true s) (languages false s) (crossings s) (readers s) (start s) (goes_on s)
part_of Types h = type_part 2048
part_of Terms h = term_part 256
part_of Modules h = braces_part 64

pub text_law : Law code IsText IsAnyText IsPastLimit (read crates) (firsts code start crates) (empty code start crates) (more code start goes_on is_kind is_counted crates)
text_law = form_law code number_of start goes_on is_kind is_counted all_sorts sample counted (languages true) (languages false) crossings readers part_of (λ s v ts r. refl) crates text_decided 0

pub text_split : (tree : Ast) (ts : List Lexeme) → IsAnyText tree ts → IsText tree ts ⊎ Crossing IsPastLimit ts
text_split tree ts s = form_split code number_of start goes_on is_kind is_counted all_sorts sample counted (languages true) (languages false) crossings readers part_of (λ s v ts r. refl) crates 0 tree ts s
