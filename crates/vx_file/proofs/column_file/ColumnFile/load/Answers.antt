-- All bytes of a file are a part of it.
use Rattle.std.proofs.Common.{ℕ, ◌≡◌, List, length, sym, subst}
use Rattle.vx_file.specs.Ranges.{Tells}
use Rattle.vx_file.specs.Selecting.{part_of}
use Rattle.vx_file.specs.Shows.{FileShows}
use Rattle.vx_file.proofs.LoadedResults.{causes_as, shown_as, taken_of}
use Rattle.vx_file.proofs.Parts.{whole_part}
use Rattle.vx_file.proofs.Taking.{at_told}
use Rattle.vx_file.proofs.column_file.ColumnFile.load.Goals as goal

pub returns-clause-shown : goal.returns-clause-shown
returns-clause-shown g c = λ bytes tells.
    let size = c.size-size.result in
    let len = at_told (g.R.Ranges.state c.args.ranges.now).told (λ z. length z ≡ size) bytes tells c.size-size.ensures.told in
    shown_as c.load_within.result (part_of bytes 0 size) bytes (whole_part bytes size len) (c.load_within.ensures.shown bytes tells)

pub returns-clause-taken : goal.returns-clause-taken
returns-clause-taken g c = λ bytes tells.
    let size = c.size-size.result in
    let len = at_told (g.R.Ranges.state c.args.ranges.now).told (λ z. length z ≡ size) bytes tells c.size-size.ensures.told in
    taken_of c.load_within.result (part_of bytes 0 size) bytes (g.R.Ranges.state c.args.ranges.now) (g.R.Ranges.state c.load_within.new.ranges) (whole_part bytes size len) (c.load_within.ensures.taken bytes tells)

pub returns-clause-cause : goal.returns-clause-cause
returns-clause-cause g c =
    let size = c.size-size.result in
    let all : (bytes : List ℕ) → Tells (g.R.Ranges.state c.args.ranges.now) bytes → part_of bytes 0 size ≡ bytes
    = λ bytes tells. whole_part bytes size (at_told (g.R.Ranges.state c.args.ranges.now).told (λ z. length z ≡ size) bytes tells c.size-size.ensures.told) in
    causes_as c.load_within.result _ (λ bytes. part_of bytes 0 size) (λ bytes. bytes) (g.R.Ranges.state c.args.ranges.now) (g.R.Ranges.state c.load_within.new.ranges) all c.load_within.ensures.cause

pub returns-clause-complete : goal.returns-clause-complete
returns-clause-complete g c = λ bytes tells file shows known table.
    let size = c.size-size.result in
    let len = at_told (g.R.Ranges.state c.args.ranges.now).told (λ z. length z ≡ size) bytes tells c.size-size.ensures.told in
    let P : List ℕ → Type 0 = λ z. FileShows z file in
    c.load_within.ensures.complete bytes tells file (subst P (sym (whole_part bytes size len)) shows) known table
