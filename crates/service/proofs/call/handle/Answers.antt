use Rattle.std.proofs.lemmas.Result.{err_from_is_err_and}
use Rattle.service.proofs.CallLaws.{passed}
use Rattle.service.proofs.CalledLaws.{taken_passes, refused_call, taken_call}
use Rattle.service.proofs.RoomLaws.{modest_fits}
use Rattle.service.proofs.call.handle.Goals as goal

pub returns-in_err-judge_call : goal.returns-in_err-judge_call
returns-in_err-judge_call c =
    let a = c.args in
    let p = err_from_is_err_and c.from_residual.result c.from_residual.ensures.1 in
    rw (p.1, p.2)
    (refused_call a.list.now a.connection.now a.registry.now a.counters a.chunk.now a.response.now a.journal.now c.judge_call.result _ c.judge_call.ensures c.in_err-judge_call.was, tt)

pub serve-requires : goal.serve-requires
serve-requires c =
    let a = c.args in
    (passed _ _ _ (taken_passes a.list.now a.connection.now a.registry.now a.counters a.chunk.now a.response.now a.journal.now c.judge_call.result c.judge_call.ensures c.in_ok-judge_call.was)).ready

pub returns : goal.returns
returns c =
    let a = c.args in
    let new = c.serve.new in
    let passes = taken_passes a.list.now a.connection.now a.registry.now a.counters a.chunk.now a.response.now a.journal.now c.judge_call.result c.judge_call.ensures c.in_ok-judge_call.was in
    let done = c.serve.ensures a.counters in (
      taken_call a.list.now a.connection.now a.registry.now a.counters a.chunk.now a.response.now a.journal.now new.connection new.registry new.out new.journal c.serve.result passes done,
      modest_fits a.counters c.serve.result.added (passed _ _ _ passes).counters_good done.modest,
    )
