-- The laws of what a reply must keep and of what it tells. Assumes nothing.
use Prim.Native.Nat.{ℕ, zero, suc, ◌+◌, ◌-◌, ◌*◌, ◌/◌, ◌≤◌, ◌<◌}
use mathlib.Core.Path.{◌≡◌, refl, sym, ap, ◌∙◌}
use mathlib.Core.Bool.{Bool, true, false, ◌&&◌}
use mathlib.Core.List.{List, [], ◌∷◌, ◌++◌}
use mathlib.Core.Option.{none}
use native.Mathlib.Omega.{arith}
use native.Mathlib.Nat.{zero-add}
use native.Mathlib.Numerals.{add-one}
use lib.ListN.{length, get_or, take, drop, set, replicate}
use lib.Seq.{get_or-drop}
use Rattle.std.specs.Prelude.{Some}
use Rattle.clock.specs.Clock.{span}
use Rattle.octets.specs.Number.{number_at}
use Rattle.octets.specs.Write.{put, laid}
use Rattle.octets.proofs.WriteLaws.{put_more}
use Rattle.leasepacket.specs.Packet.{part}
use Rattle.leasepacket.specs.Options.{values_in, only_of}
use Rattle.leasepacket.specs.ReplyOptions.{Rule, is_always}
use Rattle.deskreply.specs.Reply.{keeps, keeps_all}
use Rattle.leasepacket.proofs.OccurrenceLaws.{slice_is, told_none}
use Rattle.deskreply.specs.Reading.{time_by, numbers, addresses_by}
use Rattle.deskreply.specs.Stages.{Short, time_of, addresses_of}

-- ---- the rules of one list behind those of another
pub keeps_both : (rs qs : List Rule) (p : List ℕ) → keeps_all (rs ++ qs) p ≡ (keeps_all rs p && keeps_all qs p)
unfolding keeps_all
keeps_both [] qs p = refl
keeps_both (r ∷ rs) qs p = ap (λ (b : Bool). keeps (is_always r.sent) r.lengths (values_in r.code p) && b) (keeps_both rs qs p) ∙ sym (and_assoc (keeps (is_always r.sent) r.lengths (values_in r.code p)) (keeps_all rs p) (keeps_all qs p))
  where
    and_assoc : (a b c : Bool) → ((a && b) && c) ≡ (a && (b && c))
    and_assoc true b c = refl
    and_assoc false b c = refl

-- ---- numbers of four octets each
number_behind : (width : ℕ) (v : List ℕ) (n at : ℕ) → number_at width (drop n v) at ≡ number_at width v (n + at)
unfolding number_at
number_behind zero v n at = refl
number_behind (suc width) v n at = rw (number_behind width v n at, get_or-drop n v (at + width) 0) (ap (λ (k : ℕ). number_at width v (n + at) * 256 + get_or v k 0) (omega arith))

pub numbers_length : (n : ℕ) (v : List ℕ) → length (numbers n v) ≡ n
unfolding numbers
numbers_length zero v = refl
numbers_length (suc n) v = ap suc (numbers_length n (drop 4 v))

numbers_next : (n : ℕ) (v : List ℕ) → numbers (suc n) v ≡ numbers n v ++ (number_at 4 v (4 * n) ∷ [])
unfolding numbers
numbers_next zero v = refl
numbers_next (suc n) v =
    let e : 4 + 4 * n ≡ 4 * suc n = omega arith in
    ap (λ (l : List ℕ). number_at 4 v 0 ∷ l)
    (numbers_next n (drop 4 v) ∙ ap (λ (x : ℕ). numbers n (drop 4 v) ++ (x ∷ [])) (number_behind 4 v 4 (4 * n) ∙ ap (number_at 4 v) e))

-- a turn of the loop that fills a list
pub numbers_more : (b v l : List ℕ) (i : ℕ) → i < length b → l ≡ put b 0 (numbers i v) → set l i (number_at 4 v (4 * i)) ≡ put b 0 (numbers (i + 1) v)
numbers_more b v l i h e =
    ap (λ (k : ℕ). set l k (number_at 4 v (4 * i))) (sym (zero-add i))
    ∙ put_more b (numbers i v) (numbers (i + 1) v) l 0 i (number_at 4 v (4 * i)) (numbers_length i v) (rw add-one (numbers_next i v)) (omega arith) e

-- ---- the addresses by the values of their option, which is there just once or not
pub addresses_none : (vs : List (List ℕ)) → only_of vs ≡ none → addresses_of [] ≡ addresses_of (addresses_by vs)
addresses_none vs e = sym (told_none (λ (us : List (List ℕ)). addresses_of (addresses_by us)) vs e (λ v w us. refl))

module _ (v : List ℕ) {vs : List (List ℕ)} (only : vs ≡ v ∷ []) where
  pub addresses_once : (list : List ℕ) → list ≡ laid (numbers (length v / 4) v) (replicate 63 0) → record { count = length v / 4; list = list } ≡ addresses_of (addresses_by vs)
  addresses_once list e = rw (only, numbers_length (length v / 4) v, e) refl

  pub only_short : Short vs → length v ≤ 252
  only_short s = rw only at s

-- ---- a time that is there just once, by the octets from its place to its end
module _ (p : List ℕ) (at n : ℕ) where
  abbrev slice : List ℕ
  slice = take (at + n - at) (drop at p)

  module _ (vs : List (List ℕ)) (only : vs ≡ part p at n ∷ []) where
    pub time_once : (r : ℕ) → r ≡ number_at 4 slice 0 → time_of (Some (span r)) ≡ time_by vs
    time_once r e = ap (λ (k : ℕ). time_of (Some (span k))) (e ∙ ap (λ (v : List ℕ). number_at 4 v 0) (slice_is p at n)) ∙ sym (ap time_by only)
