use Prim.Native.Nat.{◌≤◌}
use mathlib.Core.Path.{sym, ◌∙◌}
use native.Mathlib.Omega.{arith}
use lib.ListN.{length}
use Rattle.wire.proofs.BufferLaws.{wrote_none}
use Rattle.keys.specs.Key.{data_most}
use Rattle.messages.specs.Operations.{output_bytes}
use Rattle.messages.proofs.FormatsLaws.{nothing_bytes}
use Rattle.judgement.specs.code.Decided.{output_in}
use Rattle.judgement.proofs.SourceLaws.{bytes_at_lem}
use Rattle.answer.proofs.WrittenLaws.{data_short, core_body, keystore_body}
use Rattle.answer.proofs.response.write_output.Goals as goal
use Rattle.answer.proofs.response.write_output.Goals.{After-key_bytes}

short : (c : After-key_bytes) → length c.key_bytes.result.now ≤ data_most
short c =
    rw c.key_bytes.ensures
    (data_short c.args.registry.now c.args.list.now c.requires.0 c.args.line c.requires.1 _ (rw c.in-Data.is at c.requires.2))

pub returns-in-Opcodes-eq0 : goal.returns-in-Opcodes-eq0
returns-in-Opcodes-eq0 c =
    rw (c.in-Opcodes-eq0.is, core_body _ _ _ _ (sym c.in-Opcodes-eq0.field-0-is ∙ c.in-Opcodes-eq0.field-0-test)) c.write_list_body-in-Opcodes-eq0.ensures

pub key_bytes-requires : goal.key_bytes-requires
key_bytes-requires c =
    let safe = rw c.in-Data.is at c.requires.2 in
    (c.requires.0, c.requires.1, safe.0)

pub write_bytes_body-requires : goal.write_bytes_body-requires
write_bytes_body-requires c =
    let w = (goal.at.write_bytes_body-requires c).After-key_bytes in
    omega (arith, short w, c.requires.3)

pub returns-in-Nothing : goal.returns-in-Nothing
unfolding output_in
returns-in-Nothing c = let s = c.args in rw (c.in-Nothing.is, nothing_bytes s.format) (wrote_none s.out.now)

pub returns-in-Version : goal.returns-in-Version
unfolding output_in
returns-in-Version c = rw c.in-Version.is c.write_version_body.ensures

pub returns-in-Providers : goal.returns-in-Providers
unfolding output_in output_bytes
returns-in-Providers c = rw c.in-Providers.is c.write_list_body.ensures

pub returns-in-Opcodes : goal.returns-in-Opcodes
returns-in-Opcodes c =
    rw (c.in-Opcodes.is, keystore_body _ _ _ _ (λ e. c.in-Opcodes.field-0-test.1 (c.in-Opcodes.field-0-is ∙ e))) c.write_list_body-in-Opcodes.ensures

pub returns-in-Data : goal.returns-in-Data
unfolding output_in output_bytes
returns-in-Data c =
    let s = c.args in
    rw (c.in-Data.is, ← bytes_at_lem s.registry.now s.list.now s.line _, ← c.key_bytes.ensures) c.write_bytes_body.ensures

pub returns-in-Offset : goal.returns-in-Offset
unfolding output_in
returns-in-Offset c = rw c.in-Offset.is c.write_offset_body.ensures
