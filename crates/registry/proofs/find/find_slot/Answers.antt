use Rattle.std.proofs.Common.{◌≡◌, sym, ap, ◌∙◌, ℕ, ◌+◌, ◌*◌, ◌-◌, List, length, take, drop, option_map, arith, rules}
use lib.ListN.{length-take, length-drop}
use lib.Seq.{drop-drop}
use Rattle.std.specs.List.{position}
use Rattle.std.proofs.lemmas.List.{drop-take}
use Rattle.wire.specs.Lists.{blocks}
use Rattle.registry.specs.Slots.{slot_size}
use Rattle.registry.specs.Registry.{slot_count, line_head, line_size, line_at, slots_in}
use Rattle.registry.specs.declared.Slot.{Slot}
use Rattle.registry.proofs.PlaceLaws.{has, slot_found}
use Rattle.registry.proofs.find.find_slot.Goals as goal

pub returns : goal.returns
returns c =
    let registry : List ℕ = c.args.registry.now in
    let name : List ℕ = c.args.name.now in
    let a : ℕ = c.args.line.0 * line_size in
    let part : take (a + line_size - (a + line_head)) (drop (a + line_head) registry) ≡ drop line_head (line_at registry c.args.line) =
    ap (λ (k : ℕ). take k (drop (a + line_head) registry)) (let n : a + line_size - (a + line_head) ≡ slot_count * slot_size = omega arith in n)
    ∙ ap (take (slot_count * slot_size)) (sym (drop-drop line_head a registry))
    ∙ sym (drop-take line_head (slot_count * slot_size) (drop a registry)) in
    let long : length (take (a + line_size - (a + line_head)) (drop (a + line_head) registry)) ≡ slot_count * slot_size = simp (length-take, length-drop) (omega arith) in
    let found : c.scan.result ≡ position (has name) (slots_in (line_at registry c.args.line)) =
    c.scan.ensures slot_count long ∙ ap (λ (s : List ℕ). position (has name) (blocks slot_count slot_size s)) part in
    let mapped : c.map.result ≡ option_map {U = Slot} (λ n. record { 0 = n }) c.scan.result = search rules in
    mapped ∙ ap (option_map (λ n. record { 0 = n })) found ∙ slot_found registry name c.args.line
