-- Laws of the names of objects.
use Rattle.std.proofs.Common.{◌≡◌, ℕ, suc, Bool, true, false, List, [], length, Option, None, Some, All, MatchOption, refl, sym, ap, ◌∙◌, subst}
use Rattle.std.proofs.lemmas.List.Elements.{All-nil}
use Rattle.std.proofs.lemmas.Option.{cond_some}
use Rattle.mm_symbols.specs.declared.form.SymItem.TheVariants as items
use Rattle.mm_symbols.specs.declared.form.SymbolForm.{SymbolForm}
use Rattle.mm_symbols.specs.SymbolText.{symbol_text}
use Rattle.mm_symbols.specs.declared.form.SymHead.TheVariants as heads
use Rattle.mm_symbols.specs.declared.form.SymType.{SymType}
use Rattle.mm_symbols.specs.SymTree.{sym_node, sym_children, sym_head-node, sym_children-node}
use Rattle.mm_symbols.specs.SymbolForms.{IsHead, IsWithin, IsSymbolOf, IsSymbol}
use Rattle.mm_symbols.specs.Reading as symbols
use Rattle.mm_symbols.proofs.SymbolReads.{symbol_in-sound, symbol_in-complete}
use Rattle.mm_objects.specs.ObjectNames.{is_code, IsCodeSymbol}
use Rattle.mm_objects.specs.LineReading.{is_form_of_code, is_code_symbol, symbol_in}
use Rattle.mm_objects.proofs.ReadTools.{Reads}

-- ---- symbols of code

pub code_some : (bytes : List ℕ) (form : SymbolForm) → IsSymbolOf form bytes → is_code_symbol bytes ≡ is_code form.item
unfolding is_code_symbol
code_some bytes form is = ap is_form_of_code (ap (symbols.symbol_in 4096) is.is ∙ symbol_in-complete 4096 form is.formed)

code_given : (bytes : List ℕ) (found : Option SymbolForm) → symbols.symbol_in 4096 bytes ≡ found → is_form_of_code found ≡ true → IsCodeSymbol bytes
code_given bytes None is h = absurd (cc)
code_given bytes (Some form) is h = let s = symbol_in-sound 4096 bytes form is in record { form = form; symbol = record { formed = s.0; is = s.1 }; code = h }

pub code_symbol-sound : (bytes : List ℕ) → is_code_symbol bytes ≡ true → IsCodeSymbol bytes
unfolding is_code_symbol
code_symbol-sound bytes h = code_given bytes (symbols.symbol_in 4096 bytes) refl h

pub code_symbol-complete : (bytes : List ℕ) → IsCodeSymbol bytes → is_code_symbol bytes ≡ true
code_symbol-complete bytes is = code_some bytes is.form is.symbol ∙ is.code

pub code_none : (bytes : List ℕ) → (IsSymbol bytes → ⊥) → is_code_symbol bytes ≡ false
code_none bytes none = by (is_code_symbol bytes) refl
  where
    by : (b : Bool) → is_code_symbol bytes ≡ b → is_code_symbol bytes ≡ false
    by true h = let s = code_symbol-sound bytes h in absurd (none (s.form, s.symbol))
    by false h = h

pub code_found : (bytes : List ℕ) (found : Option SymbolForm) → MatchOption found (IsSymbol bytes → ⊥) (λ form. IsSymbolOf form bytes) → is_form_of_code found ≡ is_code_symbol bytes
code_found bytes None is = sym (code_none bytes is)
code_found bytes (Some form) is = sym (code_some bytes form is)

pub symbol-reads : Reads IsCodeSymbol (λ s. s) symbol_in
unfolding symbol_in
symbol-reads = record {
  sound = λ w s h. let p = cond_some (is_code_symbol w) w s h in (subst IsCodeSymbol p.1 (code_symbol-sound w p.0), sym p.1);
  again = λ s is. rw (code_symbol-complete s is) refl;
}

-- ---- names that there are

-- the glue of numbers
abbrev number_type : SymType
number_type = sym_node heads.U64 []

number_type-is : (levels : ℕ) → IsWithin (suc levels) number_type
unfolding IsWithin
number_type-is levels =
    let head = sym_head-node heads.U64 [] in
    let children = sym_children-node heads.U64 [] in
    (subst (λ h. IsHead h (length (sym_children number_type))) (sym head) (ap length children), subst (All (IsWithin levels)) (sym children) (All-nil (IsWithin levels)))

abbrev example_form : SymbolForm
example_form = record { item = items.Glue number_type; krate = None }

abbrev pub example_symbol : List ℕ
example_symbol = symbol_text example_form

pub example_symbol-is : IsCodeSymbol example_symbol
example_symbol-is = record { form = example_form; symbol = record { formed = record { item = number_type-is 4095; krate = tt }; is = refl }; code = refl }
