-- What reading keeps: a well-formed registry stays well formed, whoever wrote the file.
use Rattle.std.proofs.Common.{Option, Some, None}
use mathlib.Core.Path.{◌≡◌, refl, sym, ap, ◌∙◌}
use mathlib.Core.Bool.{Bool, true, false, not, ◌&&◌}
use mathlib.Core.List.{List, [], ◌∷◌, ◌++◌}
use Prim.Native.Nat.{ℕ}
use borrow.Author.Tests.{ltb-true}
use lib.ListN.{take}
use lib.Dec.{ltb, eqb}
use Rattle.wire.specs.Choice.{when◌then◌else◌}
use Rattle.wire.specs.Numbers.{field}
use Rattle.wire.proofs.TestLaws.{and_left, and_right, some≢none, either}
use Rattle.keys.specs.Names.{legal_name, key_name_most}
use Rattle.keys.specs.Key.{Key, legal_bits}
use Rattle.registry.specs.Slots.{Entry}
use Rattle.registry.specs.Registry.{line_count, slots_of, changed}
use Rattle.registry.specs.WellFormed.{well_formed_registry}
use Rattle.registry.specs.declared.Line.{Line}
use Rattle.registry.proofs.RegistryLaws.{Used}
use Rattle.registry.proofs.WellFormedLaws.{Allowed, stays, fills, clears, change_kept}
use Rattle.judgement.specs.Status.{status_number}
use Rattle.lookup.specs.Lookup.{Source, own, listed, key_named}
use Rattle.judgement.specs.Operations.{Result, success, refuse, import_by, destroy_of, perform_destroy}
use Rattle.judgement.proofs.SourceLaws.{own_there}
use Rattle.judgement.proofs.ImportLaws.{bounded_legal, import_ends, new_there}
use Rattle.reading.specs.Reader.{Step}
use Rattle.reading.proofs.ReaderLaws.{always}
use Rattle.records.specs.Records.{record_length}
use Rattle.crc.specs.Crc.{crc32}
use Rattle.journal.specs.Record.{Act, importing, destroying, is_whole}
use Rattle.journal.specs.declared.Fault.{Fault}
use Rattle.journal.specs.Replay.{in_use, carried_out, replay, Judged, good, bad, judge_act, judge_record}
use Rattle.journal.specs.Reader.{Kept, reading, after_record, after_byte, journal, read_journal}

module _ (slots : List Entry) where
  import_allowed : (key : Key) → Allowed slots (import_by legal_bits key slots []).change
  unfolding refuse success
  import_allowed key = import_ends legal_bits slots [] key (λ (x : Result). Allowed slots x.change) (λ status z _. stays)
      (λ slot t n e. fills (bounded_legal key t.bounds t.bits) (new_there legal_bits slots [] key t n) e)

  destroy_allowed : (name : List ℕ) → Allowed slots (perform_destroy name slots []).change
  unfolding perform_destroy destroy_of refuse success
  destroy_allowed name = first (legal_name key_name_most name) refl
    where
      second : legal_name key_name_most name ≡ true → (o : Option Source) → key_named name slots [] ≡ o → Allowed slots (perform_destroy name slots []).change
      second v None e = rw (v, e, perform_destroy) stays
      second v (Some (own slot key)) e = rw (v, e, perform_destroy) (clears name (own_there name slots [] slot key e))
      second v (Some (listed key)) e = rw (v, e, perform_destroy) stays

      first : (t : Bool) → legal_name key_name_most name ≡ t → Allowed slots (perform_destroy name slots []).change
      first false e = rw (e, perform_destroy) stays
      first true e = second e (key_named name slots []) refl

module _ (r : List ℕ) (line : Line) where
  pub carried_is : (x : Result) (after : List ℕ) → carried_out r line x ≡ Some after → (in_use r line ≡ true) × (changed r line x.change ≡ after)
  unfolding carried_out
  carried_is x after e = go (in_use r line) (eqb (status_number x.status) 0) e
    where
      go : (t v : Bool) → (let o : Option (List ℕ) = when t && v then Some (changed r line x.change) else None in o) ≡ Some after
          → (t ≡ true) × (changed r line x.change ≡ after)
      go true true q = (refl, cc)
      go true false q = absurd (some≢none after (sym q))
      go false v q = absurd (some≢none after (sym q))

  used : in_use r line ≡ true → Used r line
  unfolding in_use
  used u = record { there = ltb-true _ _ (and_left _ _ u); used = and_right (ltb line.0 line_count) _ u }

  carried_good : (x : Result) (after : List ℕ) → well_formed_registry r ≡ true → Allowed (slots_of r line) x.change
      → carried_out r line x ≡ Some after → well_formed_registry after ≡ true
  carried_good x after w ok e =
      let (u, same) = carried_is x after e in
      ap well_formed_registry (sym same) ∙ (change_kept r w line (used u) x.change ok).0

pub replay_good : (r : List ℕ) (act : Act) (after : List ℕ) → well_formed_registry r ≡ true → replay r act ≡ Some after → well_formed_registry after ≡ true
unfolding replay
replay_good r (importing line key) after w e = carried_good r line _ after w (import_allowed (slots_of r line) key) e
replay_good r (destroying line name) after w e = carried_good r line _ after w (destroy_allowed (slots_of r line) name) e

-- of what a record leaves, if it is good
unfoldable pub GoodIf : Judged → Type 0
GoodIf (good after) = well_formed_registry after ≡ true
GoodIf (bad fault) = Unit {0}

pub act_good : (r : List ℕ) → well_formed_registry r ≡ true → (o : Option Act) → GoodIf (judge_act r o)
unfolding judge_act GoodIf
act_good r w None = tt
act_good r w (Some act) = go (replay r act) refl
  where
    go : (o : Option (List ℕ)) → replay r act ≡ o → GoodIf (judge_act r (Some act))
    go None e = rw (e, judge_act) tt
    go (Some after) e = rw (e, judge_act) (replay_good r act after w e)

judged_good : (r bytes : List ℕ) → well_formed_registry r ≡ true → GoodIf (judge_record r bytes)
unfolding judge_record
judged_good r bytes w = either GoodIf (not (eqb (field (record_length bytes) 4 bytes) (crc32 (take (record_length bytes) bytes))))
    (λ _. unfold GoodIf in tt) (λ _. act_good r w _)

abbrev pub GoodKept : Kept → Type 0
GoodKept s = well_formed_registry s.registry ≡ true

record_good : (g : List ℕ) (k : ℕ) (bytes : List ℕ) (j : Judged) → well_formed_registry g ≡ true → GoodIf j → GoodKept (after_record g k bytes j).kept
unfolding after_record GoodIf
record_good g k bytes (good after) w ok = ok
record_good g k bytes (bad fault) w ok = w

pub byte_good : (s : Kept) (bytes : List ℕ) → GoodKept s → GoodKept (after_byte s bytes).kept
unfolding after_byte
byte_good s bytes w = either (λ (t : Step Kept Fault). GoodKept t.kept) (is_whole bytes)
    (λ _. record_good s.registry s.kept bytes (judge_record s.registry bytes) w (judged_good s.registry bytes w)) (λ _. w)

-- ANY FILE leaves a well-formed registry well formed
pub read_well_formed : (registry file : List ℕ) → well_formed_registry registry ≡ true
    → well_formed_registry (read_journal registry file).kept.registry ≡ true
read_well_formed registry file w = always journal GoodKept (λ s b p e. byte_good s (s.held ++ (b ∷ [])) p) (reading registry 0 []) w file
