-- The limits that words can give.
use Rattle.std.proofs.Common.{ℕ, ◌≤◌, Some, None, subst, sym, arith}
use Rattle.std.specs.declared.option.Option.{Option}
use Rattle.std.specs.Prelude.{List, unwrap_or}
use Rattle.mm_plain.specs.declared.program.Opts.{Opts}
use Rattle.mm_tool.specs.declared.words.Command.{Command}
use Rattle.mm_tool.specs.declared.words.Command.TheVariants as command
use Rattle.mm_tool.specs.Words.{AreLimits, AreWords, IsUpTo, IsWorded}

given_short : (given : Option ℕ) → IsUpTo 2048 given → unwrap_or given 512 ≤ 2048
given_short None is = omega arith
given_short (Some n) is = is.1

limits_short : (options : List (List ℕ)) (opts : Opts) → AreLimits options opts → opts.length ≤ 2048
limits_short options opts are = subst (λ (o : Opts). o.length ≤ 2048) (sym are.is) (given_short are.length are.length_is)

pub list_short : (opts : Opts) → IsWorded (command.List opts) → opts.length ≤ 2048
list_short opts worded = limits_short worded.1.0 opts worded.1.2

pub build_short : (opts : Opts) → IsWorded (command.Build opts) → opts.length ≤ 2048
build_short opts worded = limits_short worded.1.0 opts worded.1.2

pub worded : (words : List (List ℕ)) (c : Command) → AreWords words c → IsWorded c
worded words c are = (words, are)
