-- What the desk reads of a reply with some fixed fields and some options. Assumes nothing.
use Prim.Native.Nat.{ℕ, zero, suc, ◌+◌, ◌≤◌, ◌<◌}
use mathlib.Core.Path.{◌≡◌, refl, ap, ◌∙◌}
use mathlib.Core.Bool.{Bool, true, cond, ◌&&◌}
use mathlib.Core.List.{List, [], ◌∷◌, ◌++◌}
use mathlib.Core.Option.{none, some}
use native.Mathlib.Omega.{arith}
use lib.Dec.{leb, eqb}
use lib.ListN.{length, get_or, take, drop}
use lib.Seq.{get_or-drop}
use borrow.Author.Tests.{eq-eqb, le-leb}
use Rattle.octets.specs.Number.{number_at}
use Rattle.leasepacket.specs.Packet.{part, op, htype, hlen, xid, ciaddr, chaddr, option_area, is_packet}
use Rattle.leasepacket.specs.Options.{Opt, options, values, values_of, values_in, has_options}
use Rattle.leasepacket.specs.Layout.{encoded}
use Rattle.leasepacket.specs.ReplyOptions.{Rule, in_kind, is_always}
use Rattle.leasepacket.proofs.QueryLaws.{part_length}
use Rattle.leasepacket.proofs.LayoutLaws.{Sized, read_op, read_htype, read_hlen, read_chaddr, read_xid, read_ciaddr, read_area, read_packet}
use Rattle.leasepacket.proofs.SentLaws.{Codes, read_encoded}
use Rattle.leasereply.specs.Reply.{fixed}
use Rattle.deskreply.specs.Reply.{keeps, keeps_all, kind_by, is_kind, is_reply}
use Rattle.deskreply.specs.Reading.{time_by, addresses_by, tells, told, reading}

-- ---- a number of a part
octet_of : (k : ℕ) (l : List ℕ) (i : ℕ) → i < k → get_or (take k l) i 0 ≡ get_or l i 0
octet_of zero l i h = absurd (omega arith)
octet_of (suc k) [] i h = refl
octet_of (suc k) (x ∷ l) zero h = refl
octet_of (suc k) (x ∷ l) (suc i) h = octet_of k l i (omega arith)

pub number_of : (width k : ℕ) (q : List ℕ) (at : ℕ) → width ≤ k → number_at width (part q at k) 0 ≡ number_at width q at
unfolding number_at
number_of zero k q at h = refl
number_of (suc width) k q at h =
    let z : 0 + width ≡ width = omega arith in
    rw (number_of width k q at (omega arith), z, octet_of k (drop at q) width (omega arith), get_or-drop at q width 0)

-- the rules that options keep, by their values
unfoldable pub kept : List Rule → List Opt → Bool
kept [] os = true
kept (r ∷ rs) os = keeps (is_always r.sent) r.lengths (values r.code os) && kept rs os

-- ---- a reply to a query: fixed fields, options, and the end
module _ (q : List ℕ) (htypeof hlenof : ℕ) (address hardware : List ℕ) (os : List Opt) where
  abbrev rest : List ℕ
  rest = encoded os ++ (255 ∷ [])

  abbrev pub reply_of : List ℕ
  reply_of = fixed q htypeof hlenof address hardware ++ rest

  -- what such a reply needs to be read
  pub record Sound : Type 0 where
    pub long : 240 ≤ length q
    pub address_4 : length address ≡ 4
    pub hardware_16 : length hardware ≡ 16
    pub codes : Codes os
    pub few : length rest ≤ 1260

  module _ (s : Sound) where
    sized : Sized (part q 4 4) (part q 10 2) address (part q 24 4) hardware
    sized =
        let l = s.long in
        record {
          xid_4 = part_length q 4 4 (omega arith);
          flags_2 = part_length q 10 2 (omega arith);
          ciaddr_4 = s.address_4;
          giaddr_4 = part_length q 24 4 (omega arith);
          chaddr_16 = s.hardware_16;
        }

    its_op : op reply_of ≡ 2
    unfolding fixed
    its_op = read_op 2 htypeof hlenof _ _ _ _ _ sized rest

    its_htype : htype reply_of ≡ htypeof
    unfolding fixed
    its_htype = read_htype 2 htypeof hlenof _ _ _ _ _ sized rest

    its_hlen : hlen reply_of ≡ hlenof
    unfolding fixed
    its_hlen = read_hlen 2 htypeof hlenof _ _ _ _ _ sized rest

    its_xid : xid reply_of ≡ xid q
    unfolding fixed
    its_xid = read_xid 2 htypeof hlenof _ _ _ _ _ sized rest ∙ number_of 4 4 q 4 (omega arith)

    its_ciaddr : ciaddr reply_of ≡ number_at 4 address 0
    unfolding fixed
    its_ciaddr = read_ciaddr 2 htypeof hlenof _ _ _ _ _ sized rest

    its_chaddr : chaddr reply_of ≡ hardware
    unfolding fixed
    its_chaddr = read_chaddr 2 htypeof hlenof _ _ _ _ _ sized rest

    its_packet : is_packet reply_of ≡ true
    unfolding fixed
    its_packet = read_packet 2 htypeof hlenof _ _ _ _ _ sized rest s.few

    its_options : options 0 (option_area reply_of) ≡ some os
    unfolding fixed
    its_options = ap (options 0) (read_area 2 htypeof hlenof _ _ _ _ _ sized rest) ∙ read_encoded os s.codes []

    pub its_values : (code : ℕ) → values_in code reply_of ≡ values code os
    its_values code = ap (values_of code) its_options

    its_kept : (rs : List Rule) → keeps_all rs reply_of ≡ kept rs os
    unfolding keeps_all kept
    its_kept [] = refl
    its_kept (r ∷ rs) = rw (its_values r.code, its_kept rs)

    module _ (kind : ℕ) (k : values 53 os ≡ (kind ∷ []) ∷ []) where
      its_kind : kind_by (values_in 53 reply_of) ≡ kind
      its_kind = ap kind_by (its_values 53 ∙ k)

      its_few : leb (length (values 61 os)) 1 ≡ true → has_options reply_of ≡ true
      unfolding has_options
      its_few i = rw (its_options, k, i)

      -- it is well-formed
      pub well_formed_lem : hlenof ≤ 16 → is_kind kind ≡ true → leb (length (values 61 os)) 1 ≡ true → kept (in_kind kind) os ≡ true → is_reply reply_of ≡ true
      unfolding is_reply
      well_formed_lem h j i r = rw (its_packet, its_few i, its_op, its_hlen, its_kind, le-leb hlenof 16 h, j, its_kept (in_kind kind), r)

      pub taken : is_reply reply_of ≡ true → reading (xid q) reply_of ≡ told (tells reply_of)
      unfolding reading
      taken r = rw (r, eq-eqb (xid reply_of) (xid q) its_xid)

      -- what it tells
      abbrev when_active : {A : Type 0} → A → A → A
      when_active active other = cond (eqb kind 13) active other

      pub tells_all : tells reply_of ≡ record {
        kind = kind;
        address = number_at 4 address 0;
        htype = htypeof;
        hlen = hlenof;
        chaddr = hardware;
        left = when_active (time_by (values 51 os)) none;
        since = when_active (time_by (values 91 os)) none;
        addresses = when_active (addresses_by (values 92 os)) [];
      }
      unfolding tells
      tells_all = rw (its_kind, its_ciaddr, its_htype, its_hlen, its_chaddr, its_values 51, its_values 91, its_values 92)
