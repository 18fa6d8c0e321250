-- The rules byte by byte, as a reader of the stream: what calls on it do and say is crate `reading`'s.
use Rattle.std.specs.Prelude.{ℕ, suc, ◌+◌, ◌-◌, Bool, true, false, ◌&&◌, List, [], ◌∷◌, ◌++◌, length, leb, eqb, Some, None}
use Rattle.wire.specs.Choice.{when◌then◌else◌}
use Rattle.wire.specs.Request.{content_length, auth_length, header_length, request_length}
use Rattle.stream.specs.Frame.{legal_start, oversized, unfinished, bad_start, skipped, whole, next}
use Rattle.reading.specs.Reader.{Step, Reader, Reading}
use Rattle.stream.specs.Rules.{Verdict, Judgement, Connection, opened, skipping, closed, Totals, State, judge, rules}

-- ---- which connections there are ("Roster, registry, connection, tally")

-- below 6 bytes; or magic and H good, and either header not whole, or header whole, C and A within bounds, request not whole
unfoldable pub is_beginning : List ℕ → Bool
is_beginning bytes = elim (next bytes) [
  | unfinished ↦ true
  | bad_start ↦ false
  | skipped header missing ↦ false
  | whole n ↦ false
]

unfoldable pub well_formed : Connection → Bool
well_formed (opened held) = is_beginning held
well_formed (skipping header to_go) =
    leb 6 (length header) && legal_start header && eqb (length header) (header_length header)  -- a whole header, magic and H good,
    && oversized header  -- whose C or A is too large,
    && leb 1 to_go && leb to_go (content_length header + auth_length header)  -- with 1 to C + A bytes to go
well_formed closed = true

-- ---- one byte

module _ {Reg Count Out : Type 0} (J : Judgement Reg Count Out) where
  -- the byte is taken and brings no response
  unfoldable pub keep : State Reg Count → Connection → Step (State Reg Count) Out
  keep s connection =
      let t = s.totals in
      let totals : Totals Count = record { taken = suc t.taken; answered = t.answered; dropped = t.dropped; counts = t.counts } in
      record { kept = record { connection = connection; registry = s.registry; totals = totals }; event = None }

  -- the byte is taken and is the last of a request of n bytes
  unfoldable pub respond : State Reg Count → (n : ℕ) → Verdict Reg Count Out → Connection → Step (State Reg Count) Out
  respond s n v connection =
      let t = s.totals in
      let totals : Totals Count = record { taken = suc t.taken; answered = t.answered + n; dropped = t.dropped; counts = v.counts } in
      record { kept = record { connection = connection; registry = v.registry; totals = totals }; event = Some v.response }

  -- the byte is taken and dropped
  unfoldable pub drop_byte : State Reg Count → Step (State Reg Count) Out
  drop_byte s =
      let t = s.totals in
      let totals : Totals Count = record { taken = suc t.taken; answered = t.answered; dropped = suc t.dropped; counts = t.counts } in
      record { kept = record { connection = closed; registry = s.registry; totals = totals }; event = None }

  -- an open connection that now has these bytes of a request
  unfoldable pub open_rule : State Reg Count → (bytes : List ℕ) → Step (State Reg Count) Out
  open_rule s bytes = elim (next bytes) [
    | unfinished ↦ keep s (opened bytes)
    | bad_start ↦ respond s 6 (J.on_bad_start s.registry s.totals.counts) closed
    | skipped header missing ↦ keep s (skipping header missing)
    | whole n ↦ respond s n (judge J s.registry s.totals.counts bytes) (opened [])
  ]

  unfoldable pub skip_rule : State Reg Count → (header : List ℕ) (to_go : ℕ) → Step (State Reg Count) Out
  skip_rule s header to_go =
      when leb to_go 1 then respond s (request_length header) (J.on_oversized s.registry s.totals.counts header) (opened [])
      else keep s (skipping header (to_go - 1))

  unfoldable pub byte_rule : State Reg Count → (byte : ℕ) → Step (State Reg Count) Out
  byte_rule s byte = elim s.connection [
    | opened held ↦ open_rule s (held ++ (byte ∷ []))
    | skipping header to_go ↦ skip_rule s header to_go
    | closed ↦ drop_byte s
  ]

-- ---- the reader, which never ends: a response is an event, and a closed connection still takes bytes
module _ {Reg Count Out : Type 0} (J : Judgement Reg Count Out) where
  abbrev pub reader : Reader (State Reg Count) Out
  reader = record { byte = byte_rule J; ended = λ _. false }

  -- a fresh connection is open and holds nothing; all counts are 0
  unfoldable pub fresh : Reg → State Reg Count
  fresh registry = record {
    connection = opened [];
    registry = registry;
    totals = record { taken = 0; answered = 0; dropped = 0; counts = J.no_counts };
  }

  -- THE RULES, as an uncut reading: every byte is taken
  unfoldable pub by_rules : Reg → (stream : List ℕ) → Reading (State Reg Count) Out
  by_rules registry stream =
      let o = rules J registry stream in
      record { taken = length stream; events = o.responses; kept = o.state }
