-- A chunk handed over until it is taken whole leaves in memory what the rules leave, and so does a stream read chunk by chunk.
use Rattle.std.proofs.Common.{Option, Some, Result}
use mathlib.Core.Path.{◌≡◌, refl, sym, ap, ◌∙◌, subst}
use mathlib.Core.Bool.{true}
use mathlib.Core.List.{List, [], ◌∷◌, ◌++◌, append_assoc, append-nil}
use Prim.Native.Nat.{ℕ, ◌+◌, ◌≤◌, ◌<◌}
use native.Mathlib.Omega.{arith}
use borrow.Author.Tests.{eq-eqb}
use lib.ListN.{length, take, drop, length-append, length-take, length-drop}
use lib.Seq.{take-add, take_all}
use Rattle.reading.specs.Call.{call_rule}
use Rattle.reading.proofs.CallLaws.{call_facts}
use Rattle.reading.proofs.DeliveryLaws.{call_takes}
use Rattle.stream.specs.Rules as rulesOf
use Rattle.stream.specs.Rules.{rules}
use Rattle.stream.specs.Call as stream
use Rattle.stream.specs.Call.{reader}
use Rattle.stream.proofs.RulesLaws.{rules_fresh}
use Rattle.connection.specs.Connection.{connection_size, connection_bytes, Opening, open_connection}
use Rattle.registry.specs.WellFormed.{well_formed_registry}
use Rattle.shipped.specs.Shipped.{well_formed_list}
use Rattle.judgement.specs.Counts.{Counts}
use Rattle.judgement.specs.Judgement.{judgement}
use Rattle.counters.specs.Counters.{zero_counters, counter_most}
use Rattle.service.specs.Call.{Memory, memory_of, journal_least, Call, CallOutcome, fresh, buffer_least, chunk_most, call_outcome}
use Rattle.service.specs.Contract.{lent_memory, call_with}
use Rattle.service.proofs.Demand3.{accepts, CalledOn, called_on}
use Rattle.counters.specs.declared.Counters.{Counters}
use Rattle.connection.specs.declared.change.OpenRefusal.{OpenRefusal}
use Rattle.starting.specs.code.Stream.{ReadWithin, KeptWithin, left_by, Follows, Takes, After}
use Rattle.starting.specs.declared.files.Input.{Input}
use Rattle.starting.specs.declared.files.Input.TheVariants.{Bytes}

-- ---- what was read

pub read_bytes : {most n : ℕ} {r : Input} → ReadWithin most r → r ≡ Bytes n → (1 ≤ n) × (n ≤ most)
unfolding ReadWithin
read_bytes {most} w e = subst (ReadWithin most) e w

pub kept_bytes : {most n : ℕ} {r : Option ℕ} → KeptWithin most r → r ≡ Some n → n ≤ most
unfolding KeptWithin
kept_bytes {most} w e = subst (KeptWithin most) e w

-- ---- one call

-- n bytes of a chunk were taken, one at least
record Handed (list registry seen chunk : List ℕ) (n : ℕ) (m : Memory) : Type 0 where
  pub some : 1 ≤ n
  pub fits : n ≤ length chunk
  pub memory : m ≡ left_by list registry (seen ++ take n chunk)

takes_some : (list registry seen chunk : List ℕ) → 1 ≤ length chunk
    → 1 ≤ (call_rule (reader (judgement list)) (rules (judgement list) registry seen).state chunk).taken
takes_some list registry seen [] h = absurd (omega arith)
takes_some list registry seen (b ∷ chunk) h = call_takes (reader (judgement list)) (rules (judgement list) registry seen).state b chunk refl

module _ (list registry seen : List ℕ) (good : well_formed_registry registry ≡ true) (listed : well_formed_list list ≡ true)
    (short : length seen ≤ counter_most) (chunk buffer journal : List ℕ) (some : 1 ≤ length chunk) (few : length chunk ≤ chunk_most) (room : buffer_least ≤ length buffer)
    (space : journal_least ≤ length journal) where
  abbrev n : ℕ
  n = (call_rule (reader (judgement list)) (rules (judgement list) registry seen).state chunk).taken

  abbrev call : Call
  call = call_with chunk buffer journal

  call_leaves : CalledOn list registry seen call (call_outcome list (left_by list registry seen) call)
  call_leaves = called_on list registry seen call (accepts list registry good listed seen call short few room space)

  call_hands : (o : CallOutcome) → o ≡ call_outcome list (left_by list registry seen) call → Handed list registry seen chunk o.answer.taken o.memory
  call_hands o e =
      let c : CalledOn list registry seen call o = subst (CalledOn list registry seen call) (sym e) call_leaves in
      record {
        some = omega (arith, c.taken, takes_some list registry seen chunk some);
        fits = omega (arith, c.taken, (call_facts (reader (judgement list)) (rules (judgement list) registry seen).state chunk).fits);
        memory = c.memory;
      }

-- ---- what is left of a chunk handed over again

pub takes_none : (list chunk : List ℕ) (m : Memory) → Takes list (take 0 chunk) m m
unfolding Takes
takes_none list chunk m registry stream good listed short e = e ∙ ap (left_by list registry) (sym (append-nil stream))

pub takes_all : (list chunk : List ℕ) (at : ℕ) (before after : Memory) → length chunk ≤ at
    → Takes list (take at chunk) before after → Takes list chunk before after
takes_all list chunk at before after h t = subst (λ (x : List ℕ). Takes list x before after) (take_all at chunk h) t

module _ (list chunk : List ℕ) (at : ℕ) (before after : Memory) (buffer journal : List ℕ) (o : CallOutcome)
    (few : length chunk ≤ chunk_most) (more : at < length chunk) (room : buffer_least ≤ length buffer) (space : journal_least ≤ length journal)
    (taken : Takes list (take at chunk) before after) (called : o ≡ call_outcome list after (call_with (drop at chunk) buffer journal)) where
  handed : (registry stream : List ℕ) → well_formed_registry registry ≡ true → well_formed_list list ≡ true → length stream + at ≤ counter_most
      → before ≡ left_by list registry stream → Handed list registry (stream ++ take at chunk) (drop at chunk) o.answer.taken o.memory
  unfolding Takes
  handed registry stream good listed short e =
      let t = length-take at chunk in
      let d = length-drop at chunk in
      let a = length-append stream (take at chunk) in
      call_hands list registry (stream ++ take at chunk) good listed (omega arith) (drop at chunk) buffer journal (omega arith) (omega arith) room space o
      (called ∙ ap (λ (m : Memory). call_outcome list m (call_with (drop at chunk) buffer journal)) (taken registry stream good listed (omega arith) e))

  pub takes_more : Takes list (take (at + o.answer.taken) chunk) before o.memory
  unfolding Takes
  takes_more registry stream good listed short e =
      let n : ℕ = o.answer.taken in
      let t = length-take (at + n) chunk in
      let h = handed registry stream good listed (omega arith) e in
      h.memory
      ∙ ap (left_by list registry)
      (append_assoc stream (take at chunk) (take n (drop at chunk)) ∙ ap (λ (x : List ℕ). stream ++ x) (sym (take-add at n chunk)))

  pub takes_fits : Follows list (length chunk) before → (1 ≤ o.answer.taken) × (at + o.answer.taken ≤ length chunk)
  takes_fits f =
      let h = handed f.registry f.stream f.good f.listed (omega (arith, f.short)) f.memory in
      let d = length-drop at chunk in
      (h.some, omega (arith, h.fits))

-- ---- a stream, chunk by chunk

-- a fresh connection and zero counters
pub starts : (list registry before connection : List ℕ) (opened : Result (Unit {0}) OpenRefusal) (counters : Counters) → length before ≡ connection_size
    → record { answer = opened; memory = connection } ≡ open_connection before → counters ≡ zero_counters
    → After list registry 0 (lent_memory connection registry counters)
unfolding open_connection memory_of stream.fresh judgement fresh zero_counters
starts list registry before connection opened counters size e zero =
    let made : (open_connection before).memory ≡ connection_bytes (rulesOf.opened []) = rw (eq-eqb (length before) connection_size size) in
    let memory : connection ≡ connection_bytes (rulesOf.opened []) = ap (λ (o : Opening). o.memory) e ∙ made in
    record {
      stream = [];
      short = omega arith;
      memory = (λ i. lent_memory (memory i) registry (zero i)) ∙ sym (ap (λ (o : rulesOf.Outcome (List ℕ) Counts (List ℕ)). memory_of o.state) (rules_fresh (judgement list) registry));
    }

module _ (list registry : List ℕ) (good : well_formed_registry registry ≡ true) (listed : well_formed_list list ≡ true) (most : ℕ) (m : Memory)
    (a : After list registry most m) where
  -- the next chunk can be handed over
  pub follows : (more : ℕ) → most + more ≤ counter_most → Follows list more m
  follows more h = record {
    registry = registry;
    stream = a.stream;
    good = good;
    listed = listed;
    short = omega (arith, a.short);
    memory = a.memory;
  }

  pub after_more : (chunk : List ℕ) (after : Memory) → most + length chunk ≤ counter_most → Takes list chunk m after → After list registry (most + length chunk) after
  unfolding Takes
  after_more chunk after h t = record {
    stream = a.stream ++ chunk;
    short = omega (arith, a.short, length-append a.stream chunk);
    memory = t registry a.stream good listed (omega (arith, a.short)) a.memory;
  }

  pub after_most : (least : ℕ) → most ≤ least → After list registry least m
  after_most least h = record { stream = a.stream; short = omega (arith, a.short); memory = a.memory }
