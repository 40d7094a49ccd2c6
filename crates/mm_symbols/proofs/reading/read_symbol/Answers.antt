use Rattle.mm_symbols.specs.declared.parse_error.ParseError.{ParseError}
use Rattle.mm_symbols.specs.declared.form.SymbolForm.{SymbolForm}
use Rattle.std.proofs.Common.{◌≡◌, ◌∙◌, List, ℕ, None, Err, sym, ap, subst}
use Rattle.std.proofs.lemmas.Option.{none-some}
use Rattle.mm_symbols.specs.SymbolForms.{IsSymbol}
use Rattle.mm_symbols.specs.Reading.{Gives, symbol_in}
use Rattle.mm_symbols.proofs.SymbolReads.{symbol_in-sound, symbol_in-complete}
use Rattle.mm_symbols.proofs.reading.read_symbol.Goals as goal

none_read : (bytes : List ℕ) → symbol_in 4096 bytes ≡ None → IsSymbol bytes → ⊥
none_read bytes none is = none-some is.0 (sym none ∙ ap (symbol_in 4096) is.1.is ∙ symbol_in-complete 4096 is.0 is.1.formed)

pub returns-in-Ok : goal.returns-in-Ok
returns-in-Ok c = let read = symbol_in-sound 4096 c.args.bytes.now c.in-Ok.form c.in-Ok.ensures in record { formed = read.0; is = read.1 }

pub returns-in-Err-Invalid : goal.returns-in-Err-Invalid
returns-in-Err-Invalid c is = none_read c.args.bytes.now (subst (λ (e : ParseError). Gives {X = SymbolForm} (λ x. x) (Err e) (symbol_in 4096 c.args.bytes.now)) c.in-Err-Invalid.field-0-is c.in-Err-Invalid.ensures) is
