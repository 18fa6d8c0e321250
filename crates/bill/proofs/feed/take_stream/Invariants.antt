use Rattle.std.proofs.Common.{◌≡◌, ◌*◌, length}
use Rattle.service.specs.Call.{chunk_most}
use Rattle.service.specs.Contract.{lent_memory}
use Rattle.starting.specs.code.Stream.{After}
use Rattle.bill.proofs.feed.take_stream.Given as goal

-- memory is as the rules leave it after some stream, of at most a chunk for each turn
abbrev pub invariant-loop-turn : goal.invariant-loop-turn
invariant-loop-turn l =
    After l.list l.initial.registry (l._turn * chunk_most) (lent_memory l.connection l.registry l.counters)
    × (length l.connection ≡ length l.initial.connection)
    × (length l.registry ≡ length l.initial.registry)
    × (length l.chunk ≡ chunk_most)
    × (length l.response ≡ 4096)
    × (length l.journal ≡ 4096)
