-- Two zones compared. Document 01, "Zone, requests and jobs".
use Rattle.std.specs.Prelude.{◌≡◌, cond, ◌&&◌, List, ℕ, ◌≤◌}
use Rattle.update.specs.Meaning.{zone_of}
use Rattle.lentzone.specs.Decode.{zone_in, is_zone}
use Rattle.zonesame.specs.declared.SameAnswer.{SameAnswer}

-- Refusal 17: either of them holds no zone of good form. 0 is none.
unfoldable pub same_refusal : List ℕ → List ℕ → ℕ
same_refusal left right = cond (is_zone left && is_zone right) 0 17

-- Zones are the same when they mean the same names, owners and address sets: places don't count, nor what a free place holds, a static
-- name's DHCID, or the order of addresses. The answer is 1 exactly then, and else 0; beside a refusal it is 0.
pub record SamePromise (left right : List ℕ) (r : SameAnswer) : Type 0 where
  pub refusal_is : r.refusal ≡ same_refusal left right
  pub one_or_zero : r.same ≤ 1
  pub refused : ¬ (same_refusal left right ≡ 0) → r.same ≡ 0
  pub means_same : r.same ≡ 1 → zone_of (zone_in left) ≡ zone_of (zone_in right)
  pub says_same : same_refusal left right ≡ 0 → zone_of (zone_in left) ≡ zone_of (zone_in right) → r.same ≡ 1
