use Rattle.std.proofs.Common.{◌≡◌, map, ◌∙◌, ap}
use Rattle.mm_load_plain.specs.Names.{look_up}
use Rattle.mm_load_plain.specs.Seen.{function_seen}
use Rattle.mm_load_plain.specs.WrittenItem.{functions_of, paths_to, paths_in}
use Rattle.mm_load_plain.specs.Meaning.{program_in}
use Rattle.mm_load_plain.proofs.load_crate.Goals as goal

pub returns-clause-kept : goal.returns-clause-kept
returns-clause-kept c =
    let krate = c.args.krate.now in
    let those : map function_seen c.in_ok-functions.functions.items ≡ functions_of krate = c.in_ok-functions.ensures in
    let same : look_up c.in_ok-paths.paths ≡ paths_in krate = c.in_ok-paths.ensures ∙ ap paths_to (ap (map function_seen) c.deref.ensures.value ∙ those) in
    c.in_ok-check_rules.ensures (ap (map function_seen) c.deref-2.ensures.value ∙ those) same

pub returns-clause-program : goal.returns-clause-program
returns-clause-program c =
    let krate = c.args.krate.now in
    let those : map function_seen c.in_ok-functions.functions.items ≡ functions_of krate = c.in_ok-functions.ensures in
    let same : look_up c.in_ok-paths.paths ≡ paths_in krate = c.in_ok-paths.ensures ∙ ap paths_to (ap (map function_seen) c.deref.ensures.value ∙ those) in
    c.in_ok-load_program.ensures ∙ ap (λ fs. program_in (look_up c.in_ok-paths.paths) fs krate) (ap (map function_seen) c.deref-3.ensures.value ∙ those) ∙ ap (λ ns. program_in ns (functions_of krate) krate) same
