mod Libraries
