use borrow.Author.Tests.{lt-ltb, le-ltb}
use Rattle.wire.specs.Choice.{first_of}
use Rattle.service.specs.Call.{refusal_tests}
use Rattle.service.specs.code.Called.{code_for}
use Rattle.service.proofs.refusals.judge_call.Goals as goal

pub returns-then-response-lt-BUFFER_LEAST : goal.returns-then-response-lt-BUFFER_LEAST
unfolding code_for first_of refusal_tests
returns-then-response-lt-BUFFER_LEAST c = rw (lt-ltb _ _ c.if-response-lt-BUFFER_LEAST.true)

pub returns-then-chunk-gt-CHUNK_MOST : goal.returns-then-chunk-gt-CHUNK_MOST
unfolding code_for first_of refusal_tests
returns-then-chunk-gt-CHUNK_MOST c = rw (le-ltb _ _ c.if-response-lt-BUFFER_LEAST.false, lt-ltb _ _ c.if-chunk-gt-CHUNK_MOST.true)

pub returns-then-not-is_well_formed : goal.returns-then-not-is_well_formed
unfolding code_for first_of refusal_tests
returns-then-not-is_well_formed c =
    let sized = c in
    rw (le-ltb _ _ sized.if-response-lt-BUFFER_LEAST.false, le-ltb _ _ sized.if-chunk-gt-CHUNK_MOST.false, ← c.is_well_formed.ensures, c.if-not-is_well_formed.true)

pub returns-then-not-is_well_formed-2 : goal.returns-then-not-is_well_formed-2
unfolding code_for first_of refusal_tests
returns-then-not-is_well_formed-2 c =
    let connected = c in
    let sized = connected in
    rw (le-ltb _ _ sized.if-response-lt-BUFFER_LEAST.false, le-ltb _ _ sized.if-chunk-gt-CHUNK_MOST.false, ← connected.is_well_formed.ensures, connected.if-not-is_well_formed.false, ← c.is_well_formed-2.ensures, c.if-not-is_well_formed-2.true)

pub returns-then-is_too_high : goal.returns-then-is_too_high
unfolding code_for first_of refusal_tests
returns-then-is_too_high c =
    let registered = c in
    let connected = registered in
    let sized = connected in
    rw (le-ltb _ _ sized.if-response-lt-BUFFER_LEAST.false, le-ltb _ _ sized.if-chunk-gt-CHUNK_MOST.false, ← connected.is_well_formed.ensures, connected.if-not-is_well_formed.false, ← registered.is_well_formed-2.ensures, registered.if-not-is_well_formed-2.false, ← c.is_too_high.ensures, c.if-is_too_high.true)

pub returns-then-not-is_well_formed-3 : goal.returns-then-not-is_well_formed-3
unfolding code_for first_of refusal_tests
returns-then-not-is_well_formed-3 c =
    let counted = c in
    let registered = counted in
    let connected = registered in
    let sized = connected in
    rw (le-ltb _ _ sized.if-response-lt-BUFFER_LEAST.false, le-ltb _ _ sized.if-chunk-gt-CHUNK_MOST.false, ← connected.is_well_formed.ensures, connected.if-not-is_well_formed.false, ← registered.is_well_formed-2.ensures, registered.if-not-is_well_formed-2.false, ← counted.is_too_high.ensures, counted.if-is_too_high.false, ← c.is_well_formed-3.ensures, c.if-not-is_well_formed-3.true)

pub returns-then-journal-lt-JOURNAL_LEAST : goal.returns-then-journal-lt-JOURNAL_LEAST
unfolding code_for first_of refusal_tests
returns-then-journal-lt-JOURNAL_LEAST c =
    let listed = c in
    let counted = listed in
    let registered = counted in
    let connected = registered in
    let sized = connected in
    rw (le-ltb _ _ sized.if-response-lt-BUFFER_LEAST.false, le-ltb _ _ sized.if-chunk-gt-CHUNK_MOST.false, ← connected.is_well_formed.ensures, connected.if-not-is_well_formed.false, ← registered.is_well_formed-2.ensures, registered.if-not-is_well_formed-2.false, ← counted.is_too_high.ensures, counted.if-is_too_high.false, ← listed.is_well_formed-3.ensures, listed.if-not-is_well_formed-3.false, lt-ltb _ _ c.if-journal-lt-JOURNAL_LEAST.true)

pub returns : goal.returns
unfolding code_for first_of refusal_tests
returns c =
    let listed = c in
    let counted = listed in
    let registered = counted in
    let connected = registered in
    let sized = connected in
    rw (le-ltb _ _ sized.if-response-lt-BUFFER_LEAST.false, le-ltb _ _ sized.if-chunk-gt-CHUNK_MOST.false, ← connected.is_well_formed.ensures, connected.if-not-is_well_formed.false, ← registered.is_well_formed-2.ensures, registered.if-not-is_well_formed-2.false, ← counted.is_too_high.ensures, counted.if-is_too_high.false, ← listed.is_well_formed-3.ensures, listed.if-not-is_well_formed-3.false, le-ltb _ _ c.if-journal-lt-JOURNAL_LEAST.false)
