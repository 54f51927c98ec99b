-- The options of a reply, written one behind the other and read back. Assumes nothing.
use Prim.Native.Nat.{ℕ, ◌+◌, ◌≤◌, ◌<◌}
use mathlib.Core.Path.{◌≡◌, refl, sym, ap, ◌∙◌}
use mathlib.Core.Bool.{Bool, true, false, cond}
use mathlib.Core.List.{List, [], ◌∷◌, ◌++◌, append_assoc, append-nil}
use mathlib.Core.Option.{some}
use native.Mathlib.Omega.{arith}
use lib.Dec.{eqb}
use lib.ListN.{length, length-append}
use Rattle.leasepacket.specs.Options.{Opt, followed, options, values}
use Rattle.leasepacket.specs.Layout.{option, encoded}
use Rattle.leasepacket.specs.Grammar.{Code}
use Rattle.leasepacket.specs.ReplyOptions.{Rule, is_allowed, held, sent_by}
use Rattle.leasepacket.proofs.LayoutLaws.{read_option, read_end}

-- ---- octets
pub encoded_both : (os ps : List Opt) → encoded (os ++ ps) ≡ encoded os ++ encoded ps
unfolding encoded
encoded_both [] ps = refl
encoded_both (o ∷ os) ps = ap (λ (l : List ℕ). option o.code o.octets ++ l) (encoded_both os ps) ∙ sym (append_assoc (option o.code o.octets) (encoded os) (encoded ps))

pub encoded_held : (code : ℕ) (v : List ℕ) → 0 < length v → encoded (held code v) ≡ option code v
unfolding encoded
encoded_held code [] h = absurd (omega arith)
encoded_held code (x ∷ xs) h = append-nil (option code (x ∷ xs))

pub held_short : (code : ℕ) (v : List ℕ) (b : Bool) → length (encoded (cond b (held code v) [])) ≤ 2 + length v
unfolding encoded
held_short code v false = omega arith
held_short code [] true = omega arith
held_short code (x ∷ xs) true = simp length-append (omega arith)

-- ---- read back
abbrev pub Codes : List Opt → Type 0
Codes [] = Unit {0}
Codes (o ∷ os) = Code o.code × Codes os

codes_both : (os ps : List Opt) → Codes os → Codes ps → Codes (os ++ ps)
codes_both [] ps c d = d
codes_both (o ∷ os) ps c d = (c.0, codes_both os ps c.1 d)

pub read_encoded : (os : List Opt) → Codes os → (rest : List ℕ) → options 0 (encoded os ++ (255 ∷ rest)) ≡ some os
unfolding encoded
read_encoded [] c rest = read_end rest
read_encoded (o ∷ os) c rest =
    ap (options 0) (append_assoc (option o.code o.octets) (encoded os) (255 ∷ rest))
    ∙ read_option o.code c.0 (encoded os ++ (255 ∷ rest)) o.octets
    ∙ ap (followed o) (read_encoded os c.1 rest)

-- ---- the values of a code
abbrev pub only : List ℕ → List (List ℕ)
only [] = []
only (x ∷ xs) = (x ∷ xs) ∷ []

pub only_some : (v : List ℕ) → 0 < length v → only v ≡ v ∷ []
only_some [] h = absurd (omega arith)
only_some (x ∷ xs) h = refl

module _ (code : ℕ) where
  values_both : (os ps : List Opt) → values code (os ++ ps) ≡ values code os ++ values code ps
  unfolding values
  values_both [] ps = refl
  values_both (o ∷ os) ps = go (eqb o.code code) (values_both os ps)
    where
      go : (b : Bool) → values code (os ++ ps) ≡ values code os ++ values code ps → cond b (o.octets ∷ values code (os ++ ps)) (values code (os ++ ps)) ≡ cond b (o.octets ∷ values code os) (values code os) ++ values code ps
      go true e = ap (λ (l : List (List ℕ)). o.octets ∷ l) e
      go false e = e

  values_held : (c : ℕ) (v : List ℕ) → values code (held c v) ≡ cond (eqb c code) (only v) []
  unfolding values
  values_held c [] = go (eqb c code)
    where
      go : (b : Bool) → ◌≡◌ {A = List (List ℕ)} [] (cond b [] [])
      go true = refl
      go false = refl
  values_held c (x ∷ xs) = refl

-- ---- the options that are sent, by their rules
module _ (query : List ℕ) (value : ℕ → List ℕ) where
  abbrev pub AllCodes : List Rule → Type 0
  AllCodes [] = Unit {0}
  AllCodes (r ∷ rs) = Code r.code × AllCodes rs

  one_code : (b : Bool) (c : ℕ) (v : List ℕ) → Code c → Codes (cond b (held c v) [])
  one_code false c v k = tt
  one_code true c [] k = tt
  one_code true c (x ∷ xs) k = (k, tt)

  pub sent_codes : (rs : List Rule) → AllCodes rs → Codes (sent_by query value rs)
  unfolding sent_by
  sent_codes [] k = tt
  sent_codes (r ∷ rs) k =
      codes_both (cond (is_allowed query r.code r.sent) (held r.code (value r.code)) []) (sent_by query value rs)
      (one_code (is_allowed query r.code r.sent) r.code (value r.code) k.0) (sent_codes rs k.1)

  -- one rule more in front
  pub sent_more : (r : Rule) (rs : List Rule) (rest : List ℕ) → encoded (sent_by query value rs) ≡ rest → encoded (sent_by query value (r ∷ rs)) ≡ encoded (cond (is_allowed query r.code r.sent) (held r.code (value r.code)) []) ++ rest
  unfolding sent_by
  sent_more r rs rest e =
      encoded_both (cond (is_allowed query r.code r.sent) (held r.code (value r.code)) []) (sent_by query value rs)
      ∙ ap (λ (l : List ℕ). encoded (cond (is_allowed query r.code r.sent) (held r.code (value r.code)) []) ++ l) e

  pub sent_none : encoded (sent_by query value []) ≡ []
  unfolding sent_by encoded
  sent_none = refl

  -- where there is nothing to say, nothing is sent
  abbrev pub Silent : List Rule → Type 0
  Silent [] = Unit {0}
  Silent (r ∷ rs) = (value r.code ≡ []) × Silent rs

  pub nothing_sent : (rs : List Rule) → Silent rs → sent_by query value rs ≡ []
  unfolding sent_by
  nothing_sent [] s = refl
  nothing_sent (r ∷ rs) s = rw (s.0, nothing_sent rs s.1) (none (is_allowed query r.code r.sent))
    where
      none : (b : Bool) → ◌≡◌ {A = List Opt} (cond b [] [] ++ []) []
      none true = refl
      none false = refl

  -- the values of a code among those that are sent
  unfoldable pub under : ℕ → List Rule → List (List ℕ)
  under code [] = []
  under code (r ∷ rs) = cond (eqb r.code code) (cond (is_allowed query r.code r.sent) (only (value r.code)) []) [] ++ under code rs

  pub sent_values : (code : ℕ) (rs : List Rule) → values code (sent_by query value rs) ≡ under code rs
  unfolding sent_by under values
  sent_values code [] = refl
  sent_values code (r ∷ rs) =
      values_both code (cond (is_allowed query r.code r.sent) (held r.code (value r.code)) []) (sent_by query value rs)
      ∙ rw (sent_values code rs) (ap (λ (l : List (List ℕ)). l ++ under code rs) (one_value (is_allowed query r.code r.sent)))
    where
      one_value : (b : Bool) → values code (cond b (held r.code (value r.code)) []) ≡ cond (eqb r.code code) (cond b (only (value r.code)) []) []
      one_value true = values_held code r.code (value r.code)
      one_value false = none (eqb r.code code)
        where
          none : (b : Bool) → ◌≡◌ {A = List (List ℕ)} [] (cond b [] [])
          none true = refl
          none false = refl
