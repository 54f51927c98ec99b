use Rattle.std.proofs.Common.{arith, ◌≡◌, ℕ, ◌-◌, List, [], ◌∷◌, ◌++◌, ap, ◌∙◌, length, drop, take}
use Rattle.octets.specs.Write.{WroteIf, Wrote, Laid}
use Rattle.octets.proofs.WriteLaws.{written, more, put_front}
use Rattle.dname.proofs.NameLaws.{part_rest}
use Rattle.fqdn.specs.Answer.{wrote, Room}
use Rattle.fqdn.proofs.RoomLaws.{octets_length}
use Rattle.fqdn.proofs.answer.put_name.Goals as goal

-- the three writes as one
writes : {flags : ℕ} {value tail b l₁ l₂ l₃ : List ℕ} {n₁ n₂ n₃ : ℕ} → Room value tail (length b) → Laid b 0 (flags ∷ []) l₁ n₁
    → Laid l₁ n₁ (take (length value - 1) (drop 1 value)) l₂ n₂ → Laid l₂ n₂ tail l₃ n₃ → Wrote b 0 (flags ∷ (drop 1 value ++ tail)) l₃ n₃
writes {flags} {value} {tail} {b} {l₃ = l₃} {n₃ = n₃} room p q r =
    let w : WroteIf b 0 (flags ∷ (drop 1 value ++ tail)) l₃ n₃ = rw part_rest at (more (more (written p) q) r) in
    let n = octets_length flags value tail room.some in
    w.fit (omega (arith, room.most, room.fit))

pub overflow_cast-length : goal.overflow_cast-length
overflow_cast-length c =
    let a = c.args in
    let w = writes {flags = a.flags} {value = a.value.now} {tail = a.tail.now} c.requires c.put_octet-name.ensures c.put_octets-rest.ensures c.put_octets-end.ensures in
    omega (arith, w.next, octets_length a.flags a.value.now a.tail.now c.requires.some, c.requires.most)

pub returns : goal.returns
returns c =
    let a = c.args in
    let w = writes {flags = a.flags} {value = a.value.now} {tail = a.tail.now} c.requires c.put_octet-name.ensures c.put_octets-rest.ensures c.put_octets-end.ensures in
    let e : c.put_octets-end.result ≡ length (a.flags ∷ (drop 1 a.value.now ++ a.tail.now)) = omega (arith, w.next) in
    record { result = ap wrote e; buffer = w.list ∙ put_front a.reply.now _ }
