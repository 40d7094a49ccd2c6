use Rattle.mm_tool.proofs.CommandLines.{command_one}
use Rattle.mm_tool.proofs.words.one_command.Goals as goal

pub returns : goal.returns
returns c words one other a b = command_one words one other a b
