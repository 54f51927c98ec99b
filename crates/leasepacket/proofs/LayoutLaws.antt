-- What is read back of a packet that is written as its fixed fields and what follows them, a query's or a reply's. Assumes nothing.
use Prim.Native.Nat.{ℕ, zero, suc, ◌+◌, ◌≤◌}
use mathlib.Core.Path.{◌≡◌, refl, sym, ap, ◌∙◌}
use mathlib.Core.Bool.{true}
use mathlib.Core.Option.{some}
use mathlib.Core.List.{List, [], ◌∷◌, ◌++◌, append_assoc, append-nil}
use native.Mathlib.Omega.{arith}
use native.Mathlib.Nat.{zero-add}
use borrow.Author.Tests.{le-leb, eq-eqb}
use lib.ListN.{length, take, drop, replicate, length-append, length-replicate}
use lib.Seq.{drop_at, take_at, get_or-append-add}
use Rattle.octets.specs.Number.{number_at}
use Rattle.octets.proofs.NumberLaws.{number_append}
use Rattle.leasepacket.specs.Packet.{part, option_area, cookie, is_packet}
use Rattle.leasepacket.specs.Packet as packet
use Rattle.leasepacket.specs.Layout.{fixed_fields, option}
use Rattle.leasepacket.specs.Options.{followed, options}
use Rattle.leasepacket.specs.Grammar.{Code}
use Rattle.leasepacket.proofs.Equations.{equations}

-- ---- a field at a place of any octets
-- A field stands at a place: octets as many as the place says, the field, other octets.
pub record Stands (l : List ℕ) (at : ℕ) (field : List ℕ) : Type 0 where
  pub before : List ℕ
  pub behind : List ℕ
  pub is : l ≡ (before ++ field) ++ behind
  pub count : length before ≡ at

-- at the end of octets
pub stands_last : (p f : List ℕ) (n : ℕ) → length p ≡ n → Stands (p ++ f) n f
stands_last p f n e = record { before = p; behind = []; is = sym (append-nil (p ++ f)); count = e }

-- more octets behind
pub stands_front : (l r f : List ℕ) (n : ℕ) → Stands l n f → Stands (l ++ r) n f
stands_front l r f n s = record {
  before = s.before;
  behind = s.behind ++ r;
  is = ap (λ (x : List ℕ). x ++ r) s.is ∙ append_assoc (s.before ++ f) s.behind r;
  count = s.count;
}

-- more octets before
pub stands_behind : (p l f : List ℕ) (n m : ℕ) → length p + n ≡ m → Stands l n f → Stands (p ++ l) m f
stands_behind p l f n m e s = record {
  before = p ++ s.before;
  behind = s.behind;
  is =
      ap (λ (x : List ℕ). p ++ x) s.is ∙ sym (append_assoc p (s.before ++ f) s.behind)
      ∙ ap (λ (x : List ℕ). x ++ s.behind) (sym (append_assoc p s.before f));
  count = length-append p s.before ∙ (let c = s.count in omega (arith, c, e));
}

number_behind : (width : ℕ) (p l : List ℕ) → number_at width (p ++ l) (length p) ≡ number_at width l 0
unfolding number_at
number_behind zero p l = refl
number_behind (suc width) p l = rw (number_behind width p l, get_or-append-add p l width 0, zero-add)

-- A number is read from the field alone.
pub stands_number : (width : ℕ) (l f : List ℕ) (n : ℕ) → Stands l n f → width ≤ length f → number_at width l n ≡ number_at width f 0
stands_number width l f n s h =
    ap (λ (x : List ℕ). number_at width x n) (s.is ∙ append_assoc s.before f s.behind)
    ∙ ap (number_at width (s.before ++ (f ++ s.behind))) (sym s.count)
    ∙ number_behind width s.before (f ++ s.behind)
    ∙ number_append width f s.behind 0 (omega arith)

-- The part of its place and length is the field.
pub stands_part : (l f : List ℕ) (n k : ℕ) → Stands l n f → length f ≡ k → part l n k ≡ f
stands_part l f n k s e =
    ap (λ (x : List ℕ). take k (drop n x)) (s.is ∙ append_assoc s.before f s.behind)
    ∙ ap (take k) (drop_at s.before (f ++ s.behind) n s.count)
    ∙ take_at f s.behind k e

-- ---- the fields of a packet
-- The lengths of the fields that are given as octets.
pub record Sized (xid flags ciaddr giaddr chaddr : List ℕ) : Type 0 where
  pub xid_4 : length xid ≡ 4
  pub flags_2 : length flags ≡ 2
  pub ciaddr_4 : length ciaddr ≡ 4
  pub giaddr_4 : length giaddr ≡ 4
  pub chaddr_16 : length chaddr ≡ 16

-- Where each field stands, and the cookie.
pub record Placed (xid flags ciaddr giaddr chaddr magic l : List ℕ) : Type 0 where
  pub xid_at : Stands l 4 xid
  pub flags_at : Stands l 10 flags
  pub ciaddr_at : Stands l 12 ciaddr
  pub giaddr_at : Stands l 24 giaddr
  pub chaddr_at : Stands l 28 chaddr
  pub magic_at : Stands l 236 magic

-- each stands there whatever octets the others are
module _
    (head xid secs flags ciaddr other giaddr chaddr names magic : List ℕ)
    (s : Sized xid flags ciaddr giaddr chaddr)
    (head-4 : length head ≡ 4) (secs-2 : length secs ≡ 2) (other-8 : length other ≡ 8) (names-192 : length names ≡ 192) (magic-4 : length magic ≡ 4)
  where
    abbrev front : List ℕ
    front = head ++ xid ++ secs ++ flags

    abbrev back : List ℕ
    back = ciaddr ++ other ++ giaddr ++ chaddr ++ names ++ magic

    front_12 : length front ≡ 12
    front_12 =
        let a = s.xid_4 in
        let b = s.flags_2 in
        simp length-append (omega (arith, a, b, head-4, secs-2))

    whole_240 : length (front ++ back) ≡ 240
    whole_240 =
        let a = s.xid_4 in
        let b = s.flags_2 in
        let c = s.ciaddr_4 in
        let d = s.giaddr_4 in
        let e = s.chaddr_16 in
        simp length-append (omega (arith, a, b, c, d, e, head-4, secs-2, other-8, names-192, magic-4))

    module _ (rest : List ℕ) where
      -- a field of the first twelve octets, and one behind them
      in_front_lem : (f : List ℕ) (n : ℕ) → Stands front n f → Stands (front ++ back ++ rest) n f
      in_front_lem f n w = stands_front (front ++ back) rest f n (stands_front front back f n w)

      in_back : (f : List ℕ) (n m : ℕ) → 12 + n ≡ m → Stands back n f → Stands (front ++ back ++ rest) m f
      in_back f n m e w = stands_front (front ++ back) rest f m (stands_behind front back f n m (let l = front_12 in omega (arith, l, e)) w)

      xid_stands : Stands (front ++ back ++ rest) 4 xid
      xid_stands = in_front_lem xid 4 (stands_front (head ++ xid ++ secs) flags xid 4 (stands_front (head ++ xid) secs xid 4 (stands_last head xid 4 head-4)))

      flags_stands : Stands (front ++ back ++ rest) 10 flags
      flags_stands = in_front_lem flags 10 (stands_last (head ++ xid ++ secs) flags 10 (let a = s.xid_4 in simp length-append (omega (arith, a, head-4, secs-2))))

      ciaddr_stands : Stands (front ++ back ++ rest) 12 ciaddr
      ciaddr_stands =
          in_back ciaddr 0 12 (omega arith)
          (stands_front (ciaddr ++ other ++ giaddr ++ chaddr ++ names) magic ciaddr 0
          (stands_front (ciaddr ++ other ++ giaddr ++ chaddr) names ciaddr 0
          (stands_front (ciaddr ++ other ++ giaddr) chaddr ciaddr 0
          (stands_front (ciaddr ++ other) giaddr ciaddr 0
          (stands_front ciaddr other ciaddr 0 (stands_last [] ciaddr 0 refl))))))

      giaddr_stands : Stands (front ++ back ++ rest) 24 giaddr
      giaddr_stands =
          in_back giaddr 12 24 (omega arith)
          (stands_front (ciaddr ++ other ++ giaddr ++ chaddr ++ names) magic giaddr 12
          (stands_front (ciaddr ++ other ++ giaddr ++ chaddr) names giaddr 12
          (stands_front (ciaddr ++ other ++ giaddr) chaddr giaddr 12
          (stands_last (ciaddr ++ other) giaddr 12 (let a = s.ciaddr_4 in simp length-append (omega (arith, a, other-8)))))))

      chaddr_stands : Stands (front ++ back ++ rest) 28 chaddr
      chaddr_stands =
          in_back chaddr 16 28 (omega arith)
          (stands_front (ciaddr ++ other ++ giaddr ++ chaddr ++ names) magic chaddr 16
          (stands_front (ciaddr ++ other ++ giaddr ++ chaddr) names chaddr 16
          (stands_last (ciaddr ++ other ++ giaddr) chaddr 16
          (let a = s.ciaddr_4 in let b = s.giaddr_4 in simp length-append (omega (arith, a, b, other-8))))))

      magic_stands : Stands (front ++ back ++ rest) 236 magic
      magic_stands =
          in_back magic 224 236 (omega arith)
          (stands_last (ciaddr ++ other ++ giaddr ++ chaddr ++ names) magic 224
          (let a = s.ciaddr_4 in let b = s.giaddr_4 in let c = s.chaddr_16 in simp length-append (omega (arith, a, b, c, other-8, names-192))))

      placed : Placed xid flags ciaddr giaddr chaddr magic (front ++ back ++ rest)
      placed = record { xid_at = xid_stands; flags_at = flags_stands; ciaddr_at = ciaddr_stands; giaddr_at = giaddr_stands; chaddr_at = chaddr_stands; magic_at = magic_stands }

-- What is read of a packet with such fields, and other octets behind them.
module _ (op htype hlen : ℕ) (xid flags ciaddr giaddr chaddr : List ℕ) (s : Sized xid flags ciaddr giaddr chaddr) where
  abbrev fields : List ℕ
  fields = fixed_fields op htype hlen xid flags ciaddr giaddr chaddr

  zeros : length {A = ℕ} (replicate 192 0) ≡ 192
  zeros = length-replicate {A = ℕ} 192 0

  pub fields_length : length fields ≡ 240
  unfolding fixed_fields
  fields_length = whole_240 (op ∷ htype ∷ hlen ∷ 0 ∷ []) xid (replicate 2 0) flags ciaddr (replicate 8 0) giaddr chaddr (replicate 192 0) cookie s refl refl refl zeros refl

  module _ (rest : List ℕ) where
    abbrev whole : List ℕ
    whole = fields ++ rest

    pub fields_placed : Placed xid flags ciaddr giaddr chaddr cookie whole
    unfolding fixed_fields
    fields_placed = placed (op ∷ htype ∷ hlen ∷ 0 ∷ []) xid (replicate 2 0) flags ciaddr (replicate 8 0) giaddr chaddr (replicate 192 0) cookie s refl refl refl zeros refl rest

    pub packet_length : length whole ≡ 240 + length rest
    packet_length = length-append fields rest ∙ ap (λ (n : ℕ). n + length rest) fields_length

    -- octets 0 to 2
    pub read_op : packet.op whole ≡ op
    unfolding fixed_fields
    read_op = refl

    pub read_htype : packet.htype whole ≡ htype
    unfolding fixed_fields
    read_htype = refl

    pub read_hlen : packet.hlen whole ≡ hlen
    unfolding fixed_fields
    read_hlen = refl

    pub read_hardware : part whole 1 2 ≡ htype ∷ hlen ∷ []
    unfolding fixed_fields
    read_hardware = refl

    -- the fields of several octets, as octets and as numbers
    pub part_xid : part whole 4 4 ≡ xid
    part_xid = stands_part whole xid 4 4 fields_placed.xid_at s.xid_4

    pub part_flags : part whole 10 2 ≡ flags
    part_flags = stands_part whole flags 10 2 fields_placed.flags_at s.flags_2

    pub part_ciaddr : part whole 12 4 ≡ ciaddr
    part_ciaddr = stands_part whole ciaddr 12 4 fields_placed.ciaddr_at s.ciaddr_4

    pub part_giaddr : part whole 24 4 ≡ giaddr
    part_giaddr = stands_part whole giaddr 24 4 fields_placed.giaddr_at s.giaddr_4

    pub read_chaddr : packet.chaddr whole ≡ chaddr
    read_chaddr = stands_part whole chaddr 28 16 fields_placed.chaddr_at s.chaddr_16

    pub read_xid : packet.xid whole ≡ number_at 4 xid 0
    read_xid = stands_number 4 whole xid 4 fields_placed.xid_at (let l = s.xid_4 in omega (arith, l))

    pub read_ciaddr : packet.ciaddr whole ≡ number_at 4 ciaddr 0
    read_ciaddr = stands_number 4 whole ciaddr 12 fields_placed.ciaddr_at (let l = s.ciaddr_4 in omega (arith, l))

    pub read_giaddr : packet.giaddr whole ≡ number_at 4 giaddr 0
    read_giaddr = stands_number 4 whole giaddr 24 fields_placed.giaddr_at (let l = s.giaddr_4 in omega (arith, l))

    -- what follows the cookie
    pub read_area : option_area whole ≡ rest
    read_area = drop_at fields rest 240 fields_length

    pub read_packet : length rest ≤ 1260 → is_packet whole ≡ true
    unfolding is_packet
    read_packet h =
        let l = packet_length in
        let c : number_at 4 whole 236 ≡ number_at 4 cookie 0 = stands_number 4 whole cookie 236 fields_placed.magic_at (omega arith) in
        rw (le-leb 240 (length whole) (omega (arith, l)), le-leb (length whole) 1500 (omega (arith, l, h)), eq-eqb (number_at 4 whole 236) (number_at 4 cookie 0) c)

-- ---- the options of a packet, read of the octets that they were written as
module _ (code : ℕ) (k : Code code) (rest : List ℕ) where
  pub read_option : (value : List ℕ) → options 0 (option code value ++ rest) ≡ followed (record { code = code; octets = value }) (options 0 rest)
  read_option value = equations.option code value rest k

pub read_end : (rest : List ℕ) → options 0 (255 ∷ rest) ≡ some []
read_end rest = equations.end rest
