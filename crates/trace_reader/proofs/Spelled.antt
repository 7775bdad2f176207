-- A text is read up to the first of its records that doesn't pass.
use Rattle.std.proofs.Common.{◌≡◌, ◌⊎◌, Option, Some, None, Result, Ok, Err, refl, sym, ap, inl, inr}
use Rattle.clock_gate.specs.declared.trace.Trace.{Trace}
use Rattle.csv_records.specs.Grammar.{EndsIn, RefusedAt}
use Rattle.csv_records.specs.declared.trace_error.TraceFault.{TraceFault}
use Rattle.csv_records.proofs.GrammarLaws.{said_fault, said_in_end}
use Rattle.trace_reader.specs.Facts.{Facts, facts_of}
use Rattle.trace_reader.specs.Grammar.{end_fault, ends, grammar, trace_of}
use Rattle.trace_reader.specs.Laws.{EndsAt, FaultsAreFirst, Says, TracesSay}

abbrev end_of : Facts → Result Trace TraceFault
end_of facts = ends (end_fault facts) facts

end_refused : (found : Option TraceFault) (facts : Facts) (fault : TraceFault) → ends found facts ≡ Err fault → found ≡ Some fault
end_refused None facts fault e = absurd cc
end_refused (Some other) facts fault e = let same : other ≡ fault = cc e in ap Some same

end_accepted : (found : Option TraceFault) (facts : Facts) (trace : Trace) → ends found facts ≡ Ok trace → (found ≡ None) × (trace ≡ trace_of facts)
end_accepted (Some other) facts trace e = absurd cc
end_accepted None facts trace e = let same : trace_of facts ≡ trace = cc e in (refl, sym same)

pub faults_are_first : FaultsAreFirst
faults_are_first records fault = (λ e. forth ((said_fault grammar end_of records fault).0 e), λ h. (said_fault grammar end_of records fault).1 (back h))
  where
    forth : RefusedAt grammar records fault ⊎ EndsIn grammar end_of records (Err fault) → RefusedAt grammar records fault ⊎ EndsAt records fault
    forth (inl r) = inl r
    forth (inr r) = inr (record { lines = r.lines; accepted = r.accepted; why = end_refused (end_fault (facts_of r.lines)) (facts_of r.lines) fault r.is })

    back : RefusedAt grammar records fault ⊎ EndsAt records fault → RefusedAt grammar records fault ⊎ EndsIn grammar end_of records (Err fault)
    back (inl r) = inl r
    back (inr r) = inr (record { lines = r.lines; accepted = r.accepted; is = rw r.why refl })

pub traces_say : TracesSay
traces_say records trace = (λ e. forth ((said_in_end grammar end_of records trace).0 e), λ says. (said_in_end grammar end_of records trace).1 (back says))
  where
    forth : EndsIn grammar end_of records (Ok trace) → Says records trace
    forth r =
        let end = end_accepted (end_fault (facts_of r.lines)) (facts_of r.lines) trace r.is in
        record { lines = r.lines; accepted = r.accepted; whole = end.0; is = end.1 }

    back : Says records trace → EndsIn grammar end_of records (Ok trace)
    back r = record { lines = r.lines; accepted = r.accepted; is = rw (r.whole, r.is) refl }
