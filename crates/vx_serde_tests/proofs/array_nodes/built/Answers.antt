use Rattle.std.proofs.Common.{[], ap}
use Rattle.vx_flat.specs.Building.{Built}
use Rattle.vx_serde_tests.proofs.Roots.{then_idle, then_works, vector_next, vector_awaited, none_left, session_for, writes_so}
use Rattle.vx_serde_tests.proofs.array_nodes.built.Goals as goal

pub link-requires-2-clause-idle : goal.link-requires-2-clause-idle
link-requires-2-clause-idle c = λ _.
    then_idle _ _ _ c.link.new.self c.try_write_flatbuffer.new.builder (c.in_ok-try_write_flatbuffer.ensures.written (session_for _) (writes_so _))

pub link-requires-2-clause-next : goal.link-requires-2-clause-next
link-requires-2-clause-next c = λ _.
    let waits = c.link.ensures.waits (ap (λ (b : Built). b.failed) c.in_ok-root.ensures.written) in
    vector_next c.new-builder.result c.table.new.self c.link.new.self c.try_write_flatbuffer.new.builder c.new-builder.ensures c.in_ok-root.ensures.written waits
    (c.in_ok-try_write_flatbuffer.ensures.written (session_for _) (writes_so _)).linked _ c.in_ok-root.ensures.number

pub vector-requires-clause-takes : goal.vector-requires-clause-takes
vector-requires-clause-takes c = λ _.
    let waits = c.link.ensures.waits (ap (λ (b : Built). b.failed) c.in_ok-root.ensures.written) in
    let wrote = c.in_ok-try_write_flatbuffer.ensures.written (session_for _) (writes_so _) in
    let works = then_works _ _ _ c.link.new.self c.try_write_flatbuffer.new.builder wrote in
    vector_awaited c.new-builder.result c.table.new.self c.link.new.self c.try_write_flatbuffer.new.builder c.new-builder.ensures c.in_ok-root.ensures.written waits wrote.linked
    c.link-2.new.self (c.link-2.ensures.waits works)

pub finish-requires-clause-linked : goal.finish-requires-clause-linked
finish-requires-clause-linked c = λ _.
    let waits = c.link.ensures.waits (ap (λ (b : Built). b.failed) c.in_ok-root.ensures.written) in
    let wrote = c.in_ok-try_write_flatbuffer.ensures.written (session_for _) (writes_so _) in
    let works = then_works _ _ _ c.link.new.self c.try_write_flatbuffer.new.builder wrote in
    none_left c.new-builder.result c.table.new.self c.link.new.self c.try_write_flatbuffer.new.builder c.new-builder.ensures c.in_ok-root.ensures.written waits wrote.linked
    c.link-2.new.self c.vector.new.self 8 [] (c.link-2.ensures.waits works) c.in_ok-vector.ensures.written
