pub mod MarkedCasesHold
