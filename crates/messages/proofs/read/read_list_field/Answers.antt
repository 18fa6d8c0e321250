use Rattle.std.proofs.Common.{List, ℕ, ◌≡◌, Some, refl, ap, sym, ◌∙◌}
use Rattle.protobuf.specs.Field as proto
use Rattle.messages.specs.Protobuf.{field_of}
use Rattle.messages.specs.code.ListBody.{list_schema}
use Rattle.messages.proofs.PlacedLaws.{no_field, a_skipped, other_number, no_list, a_list, span_ahead}
use Rattle.messages.proofs.read.read_list_field.Goals as goal

pub returns-in_err-f : goal.returns-in_err-f
returns-in_err-f c = rw (c.from_residual.ensures, ← c.in_err-f.ensures) (refl, tt)

pub returns-in_err-skip_field : goal.returns-in_err-skip_field
returns-in_err-skip_field c =
    rw c.from_residual-in_err-skip_field.ensures (no_field c.args.body.now c.args.at c.in_ok-f.f c.in_ok-f.ensures c.in_default.not-Span c.in_err-skip_field.ensures, tt)

pub returns-in_default : goal.returns-in_default
returns-in_default c = a_skipped c.args.body.now c.args.at c.in_ok-f.f c.in_ok-f.ensures c.in_default.not-Span _ c.in_ok-skip_field.ensures

pub returns-then-number-ne1 : goal.returns-then-number-ne1
returns-then-number-ne1 c =
    let v = c.in-Span in
    let body : List ℕ = c.args.body.now in
    let f : proto.field_at body c.args.at ≡ Some c.in_ok-f.f = sym c.in_ok-f.ensures in
    let a = span_ahead body _ _ _ _ _ (f ∙ ap Some v.is) in
    (sym (ap (field_of list_schema body) (f ∙ ap Some v.is) ∙ other_number body v.number v.start v.len v.next c.if-number-ne1.true), (a.0.behind, a.0.within))

pub of-requires : goal.of-requires
of-requires c = (span_ahead c.args.body.now _ _ _ _ _ (sym c.in_ok-f.ensures ∙ ap Some c.in-Span.is)).1

pub returns-then-not-is_packed : goal.returns-then-not-is_packed
returns-then-not-is_packed c =
    let v = c.in-Span in
    let body : List ℕ = c.args.body.now in (
      sym (ap (field_of list_schema body) (sym c.in_ok-f.ensures ∙ ap Some v.is)
          ∙ no_list body v.number v.start v.len v.next c.if-number-ne1.false (rw c.of.ensures at (sym c.is_packed.ensures) ∙ c.if-not-is_packed.true)),
      tt,
    )

pub returns : goal.returns
returns c =
    let v = c.in-Span in
    let body : List ℕ = c.args.body.now in
    let f = sym c.in_ok-f.ensures ∙ ap Some v.is in
    let a = span_ahead body _ _ _ _ _ f in (
      sym (ap (field_of list_schema body) f
          ∙ a_list body v.number v.start v.len v.next c.if-number-ne1.false (rw c.of.ensures at (sym c.is_packed.ensures) ∙ c.if-not-is_packed.false)),
      (a.1, a.0.behind, a.0.within),
    )
