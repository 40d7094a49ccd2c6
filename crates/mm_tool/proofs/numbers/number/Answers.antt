use Rattle.std.proofs.Common.{◌≡◌, Ok, arith}
use Rattle.mm_tool.proofs.CommandNumbers.{number_begins, number_read, read_number}
use Rattle.mm_tool.proofs.numbers.number.Goals as goal

pub returns-then-not-begins_as_number-clause-none : goal.returns-then-not-begins_as_number-clause-none
returns-then-not-begins_as_number-clause-none c none n is = c.begins_as_number.ensures.no (cc) (number_begins c.args.most n c.args.digits.now (omega arith) is)

pub returns-in-Ok-clause-some : goal.returns-in-Ok-clause-some
returns-in-Ok-clause-some c = read_number c.args.most c.in-Ok.n c.args.digits.now c.parse.result c.parse.ensures.value.0 (c.begins_as_number.ensures.yes (cc)) (cc) (omega arith)

pub returns-in_default-clause-none : goal.returns-in_default-clause-none
returns-in_default-clause-none c none n is =
    let read : c.parse.result ≡ Ok n = number_read c.args.most n c.args.digits.now c.parse.result (omega arith) c.parse.ensures.value.0 is in
    let same : n ≡ c.in-Ok.n = grind (arith, read, c.in-Ok.is) in
    absurd (omega (arith, same, is.2))

pub returns-in_default-2-clause-none : goal.returns-in_default-2-clause-none
returns-in_default-2-clause-none c none n is =
    let read : c.parse.result ≡ Ok n = number_read c.args.most n c.args.digits.now c.parse.result (omega arith) c.parse.ensures.value.0 is in
    absurd (cc)
