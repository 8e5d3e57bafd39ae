-- What a reader's error says of its answer.
use Rattle.vx_forms.specs.Form.{Answer, short, wrong}
use Rattle.vx_forms.specs.declared.error.ReadError.{ReadError}
use Rattle.vx_forms.specs.declared.error.ReadError.TheVariants.{Short, Wrong}

-- The answer that an error stands for.
abbrev pub refusal : {A : Type 0} → ReadError → Answer A
refusal Short = short
refusal Wrong = wrong
