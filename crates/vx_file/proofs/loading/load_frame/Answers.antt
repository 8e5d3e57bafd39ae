-- A file's footer is found by its first four bytes and its last eight.
use Rattle.std.proofs.Common.{ℕ, ◌≡◌, ◌+◌, ◌-◌, ◌≤◌, List, Option, Some, None, sym, ap, ◌∙◌, arith}
use Rattle.vx_forms.specs.Frame.{footer_len}
use Rattle.vx_file.specs.Loading.{len_by_ends}
use Rattle.vx_file.specs.Selecting.{part_of}
use Rattle.vx_file.proofs.LoadedFrames.{short_frame, no_ends, own_len, no_room, frame_found}
use Rattle.vx_file.proofs.Taking.{taken_twice, taken_as}
use Rattle.vx_file.proofs.loading.load_frame.Goals as goal

-- The length by the ends as they were loaded.
by_ends : (word head tail one two : List ℕ) (result answer : Option ℕ) → one ≡ head → two ≡ tail → result ≡ len_by_ends word one two → result ≡ answer
    → len_by_ends word head tail ≡ answer
by_ends word head tail one two result answer h t r a =
    ap (λ z. len_by_ends word z tail) (sym h) ∙ (ap (λ z. len_by_ends word one z) (sym t) ∙ (sym r ∙ a))

pub returns-then-len-lt12-clause-found : goal.returns-then-len-lt12-clause-found
returns-then-len-lt12-clause-found g c = λ bytes tells. short_frame c.args.word.now bytes c.args.start c.args.len c.if-len-lt12.true

pub returns-in_default-clause-found : goal.returns-in_default-clause-found
returns-in_default-clause-found g c = λ bytes tells.
    let room : 12 ≤ c.args.len = omega (arith, c.if-len-lt12.false) in
    no_ends c.args.word.now bytes c.args.start c.args.len c.in_ok-head.head c.in_ok-tail.tail room (c.in_ok-head.ensures.bytes bytes tells)
    (c.in_ok-tail.ensures.bytes bytes (c.in_ok-head.ensures.taken.told ∙ tells)) c.in_ok-tail.ensures.len
    (by_ends c.args.word.now c.in_ok-head.head c.in_ok-tail.tail _ _ _ _ c.as_slice.ensures c.as_slice-2.ensures c.len_in.ensures c.in_default.is)

pub returns-then-len-footer_len-clause-found : goal.returns-then-len-footer_len-clause-found
returns-then-len-footer_len-clause-found g c = λ bytes tells.
    let room : 12 ≤ c.args.len = omega (arith, c.if-len-lt12.false) in
    no_room c.args.word.now bytes c.args.start c.args.len c.in_ok-head.head c.in_ok-tail.tail room (c.in_ok-head.ensures.bytes bytes tells)
    (c.in_ok-tail.ensures.bytes bytes (c.in_ok-head.ensures.taken.told ∙ tells)) c.in_ok-tail.ensures.len c.in-Some.count
    (by_ends c.args.word.now c.in_ok-head.head c.in_ok-tail.tail _ _ _ _ c.as_slice.ensures c.as_slice-2.ensures c.len_in.ensures c.in-Some.is)
    c.if-len-footer_len.true

pub returns-clause-found : goal.returns-clause-found
returns-clause-found g c = λ bytes tells.
    let room : 12 ≤ c.args.len = omega (arith, c.if-len-lt12.false) in
    let fits : c.in-Some.count ≤ c.args.len - 12 = omega (arith, c.if-len-footer_len.false) in
    let tells_then = c.in_ok-head.ensures.taken.told ∙ tells in
    frame_found c.args.word.now bytes c.args.start c.args.len c.in_ok-head.head c.in_ok-tail.tail room (c.in_ok-head.ensures.bytes bytes tells)
    (c.in_ok-tail.ensures.bytes bytes tells_then) c.in_ok-tail.ensures.len c.in-Some.count c.in_ok-footer.footer
    (by_ends c.args.word.now c.in_ok-head.head c.in_ok-tail.tail _ _ _ _ c.as_slice.ensures c.as_slice-2.ensures c.len_in.ensures c.in-Some.is) fits
    (c.in_ok-footer.ensures.bytes bytes (c.in_ok-tail.ensures.taken.told ∙ tells_then))

pub returns-clause-taken : goal.returns-clause-taken
returns-clause-taken g c = λ bytes tells.
    let room : 12 ≤ c.args.len = omega (arith, c.if-len-lt12.false) in
    let n : footer_len (part_of bytes c.args.start c.args.len) ≡ c.in-Some.count
    = own_len c.args.word.now bytes c.args.start c.args.len c.in_ok-head.head c.in_ok-tail.tail room (c.in_ok-head.ensures.bytes bytes tells)
    (c.in_ok-tail.ensures.bytes bytes (c.in_ok-head.ensures.taken.told ∙ tells)) c.in_ok-tail.ensures.len c.in-Some.count
    (by_ends c.args.word.now c.in_ok-head.head c.in_ok-tail.tail _ _ _ _ c.as_slice.ensures c.as_slice-2.ensures c.len_in.ensures c.in-Some.is) in
    let before = g.R.Ranges.state c.args.ranges.now in
    let first = g.R.Ranges.state c.load_range.new.ranges in
    let second = g.R.Ranges.state c.load_range-2.new.ranges in
    let third = g.R.Ranges.state c.load_range-3.new.ranges in
    taken_as (4 + 8 + c.in-Some.count) (12 + footer_len (part_of bytes c.args.start c.args.len)) before third (ap (λ k. 12 + k) (sym n))
    (taken_twice (4 + 8) c.in-Some.count before second third (taken_twice 4 8 before first second c.in_ok-head.ensures.taken c.in_ok-tail.ensures.taken) c.in_ok-footer.ensures.taken)
