-- The locals and the labels of a body.
use Rattle.std.specs.Prelude.{ℕ, ◌+◌, length, not, nat_lt}
use Rattle.mm_ast.specs.declared.bodies.Body.{Body}
use Rattle.mm_ast.specs.declared.bodies.Label.{Label}
use Rattle.mm_ast.specs.declared.bodies.Local.{Local}
use Rattle.mm_mentions.specs.declared.frame.Frame.{Frame}
use Rattle.mm_mentions.specs.declared.mention.Mention.{Mention}
use Rattle.mm_mentions.specs.declared.mention.What.TheVariants as whats
use Rattle.mm_mentions.specs.Mentions.{at}

-- a body with so many parameters
abbrev pub frame_of : ℕ → Body → Frame
frame_of params body = record { params = params; lets = length body.lets; blocks = length body.blocks }

-- the locals are `_0`, the result, and one for each parameter and each `let`
abbrev pub local_mention : Frame → Local → Mention
local_mention frame local = at local.line (whats.Scoped (not (nat_lt (frame.params + frame.lets) local.number)))

-- the labels are those of the blocks
abbrev pub label_mention : Frame → Label → Mention
label_mention frame label = at label.line (whats.Scoped (nat_lt label.number frame.blocks))
