-- The parts of a frame in the code.
use Rattle.std.specs.Prelude.{ℕ, List}
use Rattle.vx_forms.specs.Frame.{Framed}
use Rattle.vx_forms.specs.declared.frame.FrameParts.{FrameParts}

-- The bytes of a footer, and their offset.
abbrev pub frame_seen : FrameParts → Framed (List ℕ)
frame_seen x = record { value = x.footer.now; offset = x.offset }
