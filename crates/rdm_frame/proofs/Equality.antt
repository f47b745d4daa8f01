-- `==` of frames.
use Rattle.std.proofs.Common.{◌≡◌, ℕ, Bool, ◌&&◌, List, refl, ap}
use Rattle.std.specs.Bool.{Decides}
use Rattle.std.specs.Prelude.{nat_eq}
use Rattle.std.proofs.lemmas.Bool.{and_parts, and_from}
use Rattle.std.proofs.lemmas.Bool.Decides.{Decides-eqb}
use Rattle.std.proofs.lemmas.Slice.Eq.{slice_eq-Decides}
use Rattle.rdm_frame.specs.declared.uid.Uid.{Uid}
use Rattle.rdm_frame.specs.declared.frame.Frame.{Frame}
use lib.Pointwise.{pointwise}

and_decides : {P Q : Type 0} (a b : Bool) → Decides a P → Decides b Q → Decides (a && b) (P × Q)
and_decides a b p q =
    (λ e. let parts = and_parts a b e in (p.0 parts.0, q.0 parts.1), λ both. and_from a b (p.1 both.0) (q.1 both.1))

iff_decides : {P Q : Type 0} (a : Bool) → (P → Q) → (Q → P) → Decides a P → Decides a Q
iff_decides a there back p = (λ e. there (p.0 e), λ q. p.1 (back q))

abbrev uid : ℕ → ℕ → Uid
uid m d = record { maker = m; device = d }

uid_same : (m m' d d' : ℕ) → (m ≡ m') × (d ≡ d') → uid m d ≡ uid m' d'
uid_same m m' d d' e = rw (e.0, e.1) refl

abbrev same_uid : Uid → Uid → Bool
same_uid u v = nat_eq u.maker v.maker && nat_eq u.device v.device

uid_decides : (u v : Uid) → Decides (same_uid u v) (u ≡ v)
uid_decides u v =
    iff_decides _ (uid_same u.maker v.maker u.device v.device) (λ e. (ap (λ (w : Uid). w.maker) e, ap (λ (w : Uid). w.device) e)) (and_decides _ _ (Decides-eqb u.maker v.maker) (Decides-eqb u.device v.device))

abbrev frame : Uid → Uid → ℕ → ℕ → ℕ → ℕ → ℕ → ℕ → List ℕ → Frame
frame d s t p c u k i b = record { dst = d; src = s; tn = t; port = p; count = c; sub = u; class = k; pid = i; body = b }

abbrev AreSame : Frame → Frame → Type 0
AreSame f g =
    (f.dst ≡ g.dst) × ((f.src ≡ g.src) × ((f.tn ≡ g.tn) × ((f.port ≡ g.port) × ((f.count ≡ g.count) × ((f.sub ≡ g.sub) × ((f.class ≡ g.class) × ((f.pid ≡ g.pid) × (f.body ≡ g.body))))))))

frame_same : (d d' s s' : Uid) (t t' p p' c c' u u' k k' i i' : ℕ) (b b' : List ℕ) → AreSame (frame d s t p c u k i b) (frame d' s' t' p' c' u' k' i' b') → frame d s t p c u k i b ≡ frame d' s' t' p' c' u' k' i' b'
frame_same d d' s s' t t' p p' c c' u u' k k' i i' b b' e =
    rw (e.0, e.1.0, e.1.1.0, e.1.1.1.0, e.1.1.1.1.0, e.1.1.1.1.1.0, e.1.1.1.1.1.1.0, e.1.1.1.1.1.1.1.0, e.1.1.1.1.1.1.1.1) refl

same_frame : (f g : Frame) → AreSame f g → f ≡ g
same_frame f g e = frame_same f.dst g.dst f.src g.src f.tn g.tn f.port g.port f.count g.count f.sub g.sub f.class g.class f.pid g.pid f.body g.body e

fields_same : (f g : Frame) → f ≡ g → AreSame f g
fields_same f g e =
    (ap (λ (h : Frame). h.dst) e, (ap (λ (h : Frame). h.src) e, (ap (λ (h : Frame). h.tn) e, (ap (λ (h : Frame). h.port) e, (ap (λ (h : Frame). h.count) e, (ap (λ (h : Frame). h.sub) e, (ap (λ (h : Frame). h.class) e, (ap (λ (h : Frame). h.pid) e, ap (λ (h : Frame). h.body) e))))))))

abbrev pub frame_eq : Frame → Frame → Bool
frame_eq f g =
    same_uid f.dst g.dst && (same_uid f.src g.src && (nat_eq f.tn g.tn && (nat_eq f.port g.port && (nat_eq f.count g.count && (nat_eq f.sub g.sub && (nat_eq f.class g.class && (nat_eq f.pid g.pid && pointwise nat_eq f.body g.body)))))))

pub frame_decides : (f g : Frame) → Decides (frame_eq f g) (f ≡ g)
frame_decides f g =
    iff_decides _ (same_frame f g) (fields_same f g) (and_decides _ _ (uid_decides f.dst g.dst) (and_decides _ _ (uid_decides f.src g.src) (and_decides _ _ (Decides-eqb f.tn g.tn) (and_decides _ _ (Decides-eqb f.port g.port) (and_decides _ _ (Decides-eqb f.count g.count) (and_decides _ _ (Decides-eqb f.sub g.sub) (and_decides _ _ (Decides-eqb f.class g.class) (and_decides _ _ (Decides-eqb f.pid g.pid) (slice_eq-Decides Decides-eqb f.body g.body _ refl)))))))))
