-- A command line and a text have one report.
use Rattle.std.proofs.Common.{◌≡◌, ℕ, List, ◌++◌, map, sym, ◌∙◌, ap, subst, inl, inr, codes}
use Rattle.std.specs.Prelude.{Contains, decimal}
use Rattle.std.proofs.lemmas.List.Sorted.{IsPermutation-map, IsPermutation-trans, IsPermutation-sym}
use Rattle.mm_plain.specs.declared.program.Program.{Program}
use Rattle.mm_plain.specs.declared.program.Opts.{Opts}
use Rattle.mm_terms.specs.declared.item.Item.{Item}
use Rattle.mm_terms.specs.Closure.{IsMember}
use Rattle.mm_plain.specs.Roots.{roots_of}
use Rattle.mm_plain.specs.Uses.{uses_of}
use Rattle.mm_plain.specs.Verdict.{IsAccepted}
use Rattle.mm_objects.specs.Emitted.{HaveOwnSymbols}
use Rattle.mm_objects.specs.ObjectText.{objects_text}
use Rattle.mm_symbols.specs.ItemForms.{IsItemIn}
use Rattle.mm_symbols.proofs.ItemLaws.{item_reported}
use Rattle.mm_emit.proofs.OneEmission.{emission_one}
use Rattle.std.proofs.lemmas.List.Elements.{All-contains}
use Rattle.mm_collect.proofs.VerdictLemmas.{many_or_long, many_or_accepted, long_or_accepted, one_note_reported, one_listing}
use Rattle.mm_symbols.specs.Listing.{line_of, ended}
use Rattle.mm_tool.specs.declared.answer.Product.{Product}
use Rattle.mm_tool.specs.declared.answer.Product.TheVariants as product
use Rattle.mm_tool.specs.declared.words.Command.{Command}
use Rattle.mm_tool.specs.declared.words.Command.TheVariants as command
use Rattle.mm_tool.specs.Report.{line, Means, IsShown, SaysTooLong, IsVerdict, IsAnswer, Answers, IsReport}
use Rattle.mm_tool.proofs.CommandLines.{command_one}
use Rattle.mm_tool.proofs.Meanings.{meaning_one}
use Rattle.mm_tool.proofs.NamedPrograms.{means_names, members_in}
use Rattle.mm_tool.proofs.OneFormat.{format_one}
use Rattle.mm_tool.proofs.OneRun.{link_answer_one}
use Rattle.mm_tool.proofs.Reports.{Same}
use Rattle.mm_emit.proofs.OneOrder.{sorted_one}

-- the items of what a text means have symbols of their own
own_symbols : (text : List ℕ) (p : Program) (opts : Opts) (items : List Item) → Means text p → IsAccepted p opts items → HaveOwnSymbols p items
own_symbols text p opts items m accepted x y inside there same =
    let member : (z : Item) → Contains items z → IsItemIn p z = λ z here. members_in text p opts.length z m (All-contains (IsMember (roots_of p) (uses_of p opts.length)) items z accepted.members.each here) in
    item_reported p (means_names text p m) x y (member x inside) (member y there) same

shown_one : (product : Product) (text : List ℕ) (p : Program) (opts : Opts) (s t : ℕ) (a b : List ℕ) → Means text p → IsShown product p opts s a → IsShown product p opts t b → Same s t a b
shown_one product.Listing text p opts s t a b m one other =
    let items = one_listing p opts one.items other.items one.accepted other.accepted in
    let lines = IsPermutation-trans one.shown.lines (map (line_of p) other.items) other.shown.lines
    (IsPermutation-trans one.shown.lines (map (line_of p) one.items) (map (line_of p) other.items)
    (IsPermutation-sym (map (line_of p) one.items) one.shown.lines one.shown.of_items)
    (IsPermutation-map (line_of p) one.items other.items items))
    other.shown.of_items in (
      one.status_is ∙ sym other.status_is,
      one.shown.is ∙ ap ended (sorted_one one.shown.lines other.shown.lines lines one.shown.sorted other.shown.sorted) ∙ sym other.shown.is,
    )
shown_one product.Objects text p opts s t a b m one other =
    let items = one_listing p opts one.items other.items one.accepted other.accepted in
    let own = own_symbols text p opts one.items m one.accepted in
    let objects = emission_one p one.items other.items own items one.shown.objects other.shown.objects one.shown.are other.shown.are in
    (one.status_is ∙ sym other.status_is, one.shown.text.text.is ∙ ap objects_text objects ∙ sym other.shown.text.text.is)

long_one : (p : Program) (opts : Opts) (s t : ℕ) (a b : List ℕ) → SaysTooLong p opts s a → SaysTooLong p opts t b → Same s t a b
long_one p opts s t a b one other =
    let note = one_note_reported p opts one.path other.path one.n other.n one.long other.long in
    let text : line (codes "error: type length " ++ decimal one.n ++ codes " in " ++ one.path) ≡ line (codes "error: type length " ++ decimal other.n ++ codes " in " ++ other.path) =
    λ i. line (codes "error: type length " ++ decimal (note.1 i) ++ codes " in " ++ note.0 i) in
    (one.status_is ∙ sym other.status_is, one.output_is ∙ text ∙ sym other.output_is)

verdict_one : (product : Product) (text : List ℕ) (p : Program) (opts : Opts) (s t : ℕ) (a b : List ℕ) → Means text p → IsVerdict product p opts s a → IsVerdict product p opts t b → Same s t a b
verdict_one product text p opts s t a b m (inl one) (inl other) = shown_one product text p opts s t a b m one other
verdict_one product text p opts s t a b m (inl one) (inr (inl other)) = absurd (many_or_accepted p opts one.items other.many one.accepted)
verdict_one product text p opts s t a b m (inl one) (inr (inr other)) = absurd (long_or_accepted p opts other.path other.n one.items other.long one.accepted)
verdict_one product text p opts s t a b m (inr (inl one)) (inl other) = absurd (many_or_accepted p opts other.items one.many other.accepted)
verdict_one product text p opts s t a b m (inr (inl one)) (inr (inl other)) = (one.status_is ∙ sym other.status_is, one.output_is ∙ sym other.output_is)
verdict_one product text p opts s t a b m (inr (inl one)) (inr (inr other)) = absurd (many_or_long p opts other.path other.n one.many other.long)
verdict_one product text p opts s t a b m (inr (inr one)) (inl other) = absurd (long_or_accepted p opts one.path one.n other.items one.long other.accepted)
verdict_one product text p opts s t a b m (inr (inr one)) (inr (inl other)) = absurd (many_or_long p opts one.path one.n other.many one.long)
verdict_one product text p opts s t a b m (inr (inr one)) (inr (inr other)) = long_one p opts s t a b one other

answer_one : (product : Product) (text : List ℕ) (opts : Opts) (s t : ℕ) (a b : List ℕ) → IsAnswer product text opts s a → IsAnswer product text opts t b → Same s t a b
answer_one product text opts s t a b (inl one) (inl other) =
    verdict_one product text other.program opts s t a b other.means (subst (λ p. IsVerdict product p opts s a) (meaning_one text one.program other.program one.means other.means) one.verdict) other.verdict
answer_one product text opts s t a b (inl one) (inr other) = absurd (other.none one.program one.means)
answer_one product text opts s t a b (inr one) (inl other) = absurd (one.none other.program other.means)
answer_one product text opts s t a b (inr one) (inr other) = (one.status_is ∙ sym other.status_is, one.output_is ∙ sym other.output_is)

answers_one : (command : Command) (text : List ℕ) (s t : ℕ) (a b : List ℕ) → Answers command text s a → Answers command text t b → Same s t a b
answers_one (command.List opts) text s t a b one other = answer_one product.Listing text opts s t a b one other
answers_one (command.Build opts) text s t a b one other = answer_one product.Objects text opts s t a b one other
answers_one (command.Link steps) text s t a b one other = link_answer_one text steps s t a b one other
answers_one command.Fmt text s t a b one other = format_one text s t a b one other

pub report_one : (words : List (List ℕ)) (text : List ℕ) (s t : ℕ) (a b : List ℕ) → IsReport words text s a → IsReport words text t b → Same s t a b
report_one words text s t a b (inl one) (inl other) =
    let same : one.command ≡ other.command = command_one words one.command other.command one.words_are other.words_are in
    answers_one other.command text s t a b (subst (λ c. Answers c text s a) same one.answer) other.answer
report_one words text s t a b (inl one) (inr other) = absurd (other.none one.command one.words_are)
report_one words text s t a b (inr one) (inl other) = absurd (one.none other.command other.words_are)
report_one words text s t a b (inr one) (inr other) = (one.status_is ∙ sym other.status_is, one.output_is ∙ sym other.output_is)
