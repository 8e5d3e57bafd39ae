-- A format that is made of forms: sizes after a word and their count.
use Rattle.std.specs.Prelude.{ℕ, List, codes}
use Rattle.vx_forms.specs.Form.{Form}
use Rattle.vx_forms.specs.Lists.{list}
use Rattle.vx_forms.specs.Numbers.{uint64}
use Rattle.vx_forms.specs.Prefixed.{prefixed}

-- Up to 1,000 numbers in eight bytes, after their count.
abbrev pub numbers : Form (List ℕ)
numbers = list 0 1000 uint64

-- The same after a word.
abbrev pub sizes : Form (List ℕ)
sizes = prefixed (codes "SIZE") numbers
