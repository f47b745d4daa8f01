-- Reading on, until what is waited for comes.
use Rattle.std.proofs.Common.{◌≡◌, ℕ, Bool, true, false, List, [], ◌++◌, length, Option, Some, None, refl, sym, ap, subst, ◌∙◌, arith, append_assoc, append-nil, true≢false}
use Rattle.std.specs.Prelude.{◌≢◌, Result, Ok, Err, IfOk, IfErr, OnErr}
use Rattle.std.specs.Io.KnownBytes.{Keeps, Consumes, Appends, IsAtEnd}
use Rattle.std.proofs.KnownBytes.{Consumes-nil, Consumes-trans}
use Rattle.rdm_collector.specs.declared.port.PortError.{PortError}
use Rattle.rdm_collector.specs.declared.port.PortError.TheVariants.{Closed, Write}
use Rattle.rdm_messages.specs.Ends.{End, end_at}
use Rattle.rdm_messages.specs.Framing.{Message, IsUnfinished, message_bytes}
use Rattle.rdm_messages.proofs.Frames.{none_of}
use Rattle.rdm_interface.specs.declared.wanted.Wanted.{Wanted}
use Rattle.rdm_interface.specs.declared.wanted.Wanted.TheVariants.{Labelled, Branch, Response, Anything}
use Rattle.rdm_interface.specs.Answers.{wanted_by, label_for, belongs, has_end, heard_in, request_message}
use Rattle.rdm_interface.specs.Exchanges.{IsNext, IsReadOn, IsOver, IsAwaited, IsAsked, IsEnded, IsExchanged, IsCutOff, NonePassedOver, HasFailed}
use Rattle.rdm_interface.proofs.Nexts.{next_none, next_then, next_more}

-- one result is the other
abbrev Alike : Result (Option (List ℕ)) PortError → Result (Option (List ℕ)) PortError → Type 0
Alike r s = r ≡ s

-- the same error
error_is : (a b : PortError) → Alike (Err a) (Err b) → a ≡ b
error_is a b e = cc

-- ---- what is read

pub keeps_all : (a b : Option (List ℕ)) → Keeps a b → Consumes a b []
keeps_all None b keeps = tt
keeps_all (Some xs) None keeps = absurd keeps
keeps_all (Some xs) (Some ys) keeps = sym keeps

pub no_more : (held kept bytes : List ℕ) → kept ≡ held ++ bytes → length bytes ≡ 0 → kept ≡ held
no_more held kept bytes is none = is ∙ ap (λ (l : List ℕ). held ++ l) (none_of bytes none) ∙ append-nil held

-- in what was held it is looked for first
pub read_none : (b : Message → Bool) (unread : Option (List ℕ)) (held kept : List ℕ) (came : Option Message) → IsNext b held came kept → IsReadOn b unread unread held kept came
read_none b unread held kept came next = record {
  input = [];
  read = Consumes-nil unread;
  next = subst (λ (l : List ℕ). IsNext b l came kept) (sym (append-nil held)) next;
}

-- more was read, and it is looked for in all
pub read_some : (b : Message → Bool) (unread left : Option (List ℕ)) (held all kept : List ℕ) (came : Option Message)
    → (bytes : List ℕ) × (all ≡ held ++ bytes) × Consumes unread left bytes → IsNext b all came kept → IsReadOn b unread left held kept came
read_some b unread left held all kept came r next = record {
  input = r.0;
  read = r.2;
  next = subst (λ (l : List ℕ). IsNext b l came kept) r.1 next;
}

-- and isn't looked for yet
pub read_only : (b : Message → Bool) (unread left : Option (List ℕ)) (held all : List ℕ)
    → (bytes : List ℕ) × (all ≡ held ++ bytes) × Consumes unread left bytes → IsReadOn b unread left held all None
read_only b unread left held all r = read_some b unread left held all all None r (next_none b all)

-- one read after another
pub read_then : (b : Message → Bool) (unread mid left : Option (List ℕ)) (held between kept : List ℕ) (came : Option Message)
    → IsReadOn b unread mid held between None → IsReadOn b mid left between kept came → IsReadOn b unread left held kept came
read_then b unread mid left held between kept came one two = record {
  input = one.input ++ two.input;
  read = Consumes-trans unread mid left one.input two.input one.read two.read;
  next =
      subst (λ (l : List ℕ). IsNext b l came kept) (append_assoc held one.input two.input)
      (next_then b ((held ++ one.input) ++ two.input) (between ++ two.input) kept came
      (next_more b (held ++ one.input) between two.input None one.next) two.next);
}

pub read_then_ok : (r : Result (Option Message) PortError) (b : Message → Bool) (unread mid left : Option (List ℕ)) (held between kept : List ℕ)
    → IsReadOn b unread mid held between None → IfOk r (IsReadOn b mid left between kept) → IfOk r (IsReadOn b unread left held kept)
read_then_ok (Ok came) b unread mid left held between kept one two = read_then b unread mid left held between kept came one two
read_then_ok (Err e) b unread mid left held between kept one two = tt

pub read_then_err : (r : Result (Option Message) PortError) (b : Message → Bool) (unread mid left : Option (List ℕ)) (held between kept : List ℕ)
    → IsReadOn b unread mid held between None → OnErr r (IsReadOn b mid left between kept None) → OnErr r (IsReadOn b unread left held kept None)
read_then_err (Ok came) b unread mid left held between kept one two = two
read_then_err (Err e) b unread mid left held between kept one two = read_then b unread mid left held between kept None one two

-- ---- what is waited for

-- the answer that was held, or was read behind it
pub awaited_then : (b : Message → Bool) (unread left : Option (List ℕ)) (held between kept : List ℕ) (r : Result (Option Message) PortError)
    → IsNext b held None between → IfOk r (IsReadOn b unread left between kept) → IfOk r (IsReadOn b unread left held kept)
awaited_then b unread left held between kept r next read = read_then_ok r b unread unread left held between kept (read_none b unread held between None next) read

pub passed_by : (unread left : Option (List ℕ)) (held between kept : List ℕ) (b : Message → Bool) (r : Result (Option Message) PortError)
    → IsNext b held None between → OnErr r (IsReadOn b unread left between kept None) → OnErr r (IsReadOn b unread left held kept None)
passed_by unread left held between kept b r next read =
    read_then_err r b unread unread left held between kept (read_none b unread held between None next) read

-- what is waited for, at an end where this was written before and after
pub awaited_of : {C : Type 0} (tells : C → ℕ → C → Type 0) (limit : ℕ) (before after : C) (unread left old new : Option (List ℕ)) (held kept : List ℕ) (b : Message → Bool) (came : Option Message)
    → IsReadOn b unread left held kept came → (came ≡ None → IsOver tells limit before after) → (came ≡ None → IsUnfinished kept)
    → IsAwaited tells limit (end_at before unread old held) (end_at after left new kept) b came
awaited_of tells limit before after unread left old new held kept b came read over searched = record { read = read; over = over; searched = searched }

-- ---- what is asked

pub asked_of : {C : Type 0} (tells : C → ℕ → C → Type 0) (limit : ℕ) (before after : C) (unread left old new : Option (List ℕ)) (held kept : List ℕ) (asked : Message) (b : Message → Bool) (r : Result (Option Message) PortError)
    → Appends old new (message_bytes asked) → IfOk r (IsReadOn b unread left held kept)
    → (r ≡ Ok None → IsOver tells limit before after) → (r ≡ Ok None → IsUnfinished kept)
    → IfOk r (IsAsked tells limit (end_at before unread old held) (end_at after left new kept) asked b)
asked_of tells limit before after unread left old new held kept asked b (Ok answer) written read over searched = record {
  written = written;
  awaited = awaited_of tells limit before after unread left old new held kept b answer read (λ none. over (ap Ok none)) (λ none. searched (ap Ok none));
}
asked_of tells limit before after unread left old new held kept asked b (Err e) written read over searched = tt

-- the end behind an answer that has one
pub ended_of : {C : Type 0} (tells : C → ℕ → C → Type 0) (limit : ℕ) (before after : C) (unread left old : Option (List ℕ)) (held kept : List ℕ) (t : Bool) (end : Option Message)
    → t ≡ true → IsReadOn (belongs (Labelled 12)) unread left held kept end → (end ≡ None → IsOver tells limit before after) → (end ≡ None → IsUnfinished kept)
    → IsEnded tells limit (end_at before unread old held) (end_at after left old kept) t end
ended_of tells limit before after unread left old held kept true end is read over searched =
    (awaited_of tells limit before after unread left old old held kept (belongs (Labelled 12)) end read over searched, refl)
ended_of tells limit before after unread left old held kept false end is read over searched = absurd (true≢false (sym is))

-- and behind another
pub ended_at_once : {C : Type 0} (tells : C → ℕ → C → Type 0) (limit : ℕ) (at : End C) (t : Bool) (end : Option Message) → t ≡ false → IsEnded tells limit at at t end
ended_at_once tells limit at true end not = absurd (true≢false not)
ended_at_once tells limit at false end not = refl

-- what is asked by the message of a request
asked_by : {C : Type 0} (tells : C → ℕ → C → Type 0) (limit : ℕ) (before after : End C) (request : List ℕ) (w : Wanted) (label : ℕ) (came : Option Message)
    → w ≡ wanted_by request → label ≡ label_for w → IsAsked tells limit before after (record { label = label; body = request }) (belongs w) came
    → IsAsked tells limit before after (request_message request) (belongs (wanted_by request)) came
asked_by tells limit before after request w label came is labelled asked =
    subst (λ (v : Wanted). IsAsked tells limit before after (record { label = label_for v; body = request }) (belongs v) came) is
    (subst (λ (n : ℕ). IsAsked tells limit before after (record { label = n; body = request }) (belongs w) came) labelled asked)

-- a request whose answer came, and what is behind it
pub exchanged_some : {C : Type 0} (tells : C → ℕ → C → Type 0) (limit : ℕ) (before between after : End C) (request : List ℕ) (w : Wanted) (label : ℕ) (m : Message) (end : Option Message) (heard : Option (List ℕ))
    → w ≡ wanted_by request → label ≡ label_for w → heard ≡ heard_in (Some m)
    → IsAsked tells limit before between (record { label = label; body = request }) (belongs w) (Some m) → IsEnded tells limit between after (has_end w (Some m)) end
    → IsExchanged tells limit before after request heard
exchanged_some tells limit before between after request w label m end heard is labelled says asked ended = record {
  answer = Some m;
  end = end;
  between = between;
  asked = asked_by tells limit before between request w label (Some m) is labelled asked;
  ended = subst (λ (v : Wanted). IsEnded tells limit between after (has_end v (Some m)) end) is ended;
  heard_is = says;
}

-- where nothing came there is no end
no_end : {C : Type 0} (tells : C → ℕ → C → Type 0) (limit : ℕ) (at : End C) (w : Wanted) → IsEnded tells limit at at (has_end w None) None
no_end tells limit at (Labelled label) = refl
no_end tells limit at Branch = refl
no_end tells limit at (Response request) = refl
no_end tells limit at Anything = refl

-- a request that nobody answered
pub exchanged_none : {C : Type 0} (tells : C → ℕ → C → Type 0) (limit : ℕ) (before after : End C) (request : List ℕ) (w : Wanted) (label : ℕ)
    → w ≡ wanted_by request → label ≡ label_for w → IsAsked tells limit before after (record { label = label; body = request }) (belongs w) None
    → IsExchanged tells limit before after request None
exchanged_none tells limit before after request w label is labelled asked = record {
  answer = None;
  end = None;
  between = after;
  asked = asked_by tells limit before after request w label None is labelled asked;
  ended = no_end tells limit after (wanted_by request);
  heard_is = refl;
}

-- only DISC_UNIQUE_BRANCH has an end
pub end_of_branch : (w : Wanted) (m : Message) → has_end w (Some m) ≡ true → label_for w ≡ 7 → ⊥
end_of_branch (Labelled label) m e seven = true≢false (sym e)
end_of_branch Branch m e seven = absurd (omega (arith, seven))
end_of_branch (Response request) m e seven = true≢false (sym e)
end_of_branch Anything m e seven = true≢false (sym e)

-- ---- what fails

-- a request that failed
pub failed_of : {C : Type 0} (before after : End C) (request : List ℕ) (r : Result (Option (List ℕ)) PortError)
    → OnErr r (label_for (wanted_by request) ≡ 7 → NonePassedOver (belongs (wanted_by request)) before after)
    → (r ≡ Err Closed → IsAtEnd after.unread)
    → (r ≢ Err Write → Appends before.written after.written (message_bytes (request_message request)))
    → (r ≡ Err Write → IsCutOff before.written after.written (message_bytes (request_message request)))
    → IfErr r (HasFailed before after request)
failed_of before after request (Ok heard) passed closed written cut = tt
failed_of before after request (Err error) passed closed written cut = record {
  passed = passed;
  closed = λ e. closed (ap Err e);
  written = λ other. written (λ e. other (error_is error Write e));
  cut = λ e. cut (ap Err e);
}
